mod Cutting
mod Escaping
mod Naming
