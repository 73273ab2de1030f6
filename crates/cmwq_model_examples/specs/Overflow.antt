-- More flushes than are served at once.
use Rattle.std.specs.Prelude.{false, [], ◌∷◌}
use Rattle.cmwq_model.specs.declared.reply.Reply.TheVariants as reply
use Rattle.cmwq_model_examples.specs.Words.{Example, example, caller, normal, queue, flush, end, take, finish, entry}
use Rattle.cmwq_model_examples.specs.Words.{system, wq}

-- The sixteenth flush waits in overflow until an older one has ended.
abbrev pub sixteen_flushes : Example
sixteen_flushes = example (system 1 2 1 2 400 (wq 1 false false ∷ [])) (
    entry (caller 0) 0 (queue 0 0 0) (reply.Yes 0) ∷
    entry (caller 0) 1 (flush 0) (reply.Ticket 1) ∷
    entry (caller 0) 2 (flush 0) (reply.Ticket 2) ∷
    entry (caller 0) 3 (flush 0) (reply.Ticket 3) ∷
    entry (caller 0) 4 (flush 0) (reply.Ticket 4) ∷
    entry (caller 0) 5 (flush 0) (reply.Ticket 5) ∷
    entry (caller 0) 6 (flush 0) (reply.Ticket 6) ∷
    entry (caller 0) 7 (flush 0) (reply.Ticket 7) ∷
    entry (caller 0) 8 (flush 0) (reply.Ticket 8) ∷
    entry (caller 0) 9 (flush 0) (reply.Ticket 9) ∷
    entry (caller 0) 10 (flush 0) (reply.Ticket 10) ∷
    entry (caller 0) 11 (flush 0) (reply.Ticket 11) ∷
    entry (caller 0) 12 (flush 0) (reply.Ticket 12) ∷
    entry (caller 0) 13 (flush 0) (reply.Ticket 13) ∷
    entry (caller 0) 14 (flush 0) (reply.Ticket 14) ∷
    entry (caller 0) 15 (flush 0) (reply.Ticket 15) ∷
    entry (caller 0) 16 (flush 0) (reply.Ticket 16) ∷
    entry (caller 0) 17 (queue 1 0 0) (reply.Yes 17) ∷
    entry (caller 0) 18 (end 16) (reply.Waiting 0) ∷
    entry (normal 0 0) 0 take (reply.StartedEnlist 0 1) ∷
    entry (normal 0 0) 1 finish (reply.Finished 0) ∷
    entry (caller 0) 19 (end 16) (reply.Waiting 17) ∷
    entry (caller 0) 20 (end 15) reply.Done ∷
    entry (caller 0) 21 (end 16) (reply.Waiting 17) ∷
    entry (caller 0) 22 (end 1) reply.Done ∷
    entry (normal 0 1) 0 take (reply.Started 17) ∷
    entry (normal 0 1) 1 finish (reply.Finished 17) ∷
    entry (caller 0) 23 (end 16) reply.Done ∷
    entry (caller 0) 24 (end 2) reply.Done ∷
    entry (caller 0) 25 (end 3) reply.Done ∷
    entry (caller 0) 26 (end 4) reply.Done ∷
    entry (caller 0) 27 (end 5) reply.Done ∷
    entry (caller 0) 28 (end 6) reply.Done ∷
    entry (caller 0) 29 (end 7) reply.Done ∷
    entry (caller 0) 30 (end 8) reply.Done ∷
    entry (caller 0) 31 (end 9) reply.Done ∷
    entry (caller 0) 32 (end 10) reply.Done ∷
    entry (caller 0) 33 (end 11) reply.Done ∷
    entry (caller 0) 34 (end 12) reply.Done ∷
    entry (caller 0) 35 (end 13) reply.Done ∷
    entry (caller 0) 36 (end 14) reply.Done ∷
    entry (caller 0) 37 (queue 0 0 0) (reply.Yes 41) ∷
    entry (caller 0) 38 (flush 0) (reply.Ticket 42) ∷
    entry (normal 0 0) 2 take (reply.Started 41) ∷
    entry (normal 0 0) 3 finish (reply.Finished 41) ∷
    entry (caller 0) 39 (end 42) reply.Done ∷
    entry (caller 0) 40 (queue 0 0 0) (reply.Yes 46) ∷
    entry (caller 0) 41 (flush 0) (reply.Ticket 47) ∷
    entry (normal 0 0) 4 take (reply.Started 46) ∷
    entry (normal 0 0) 5 finish (reply.Finished 46) ∷
    entry (caller 0) 42 (end 47) reply.Done ∷
    entry (caller 0) 43 (queue 0 0 0) (reply.Yes 51) ∷
    entry (caller 0) 44 (flush 0) (reply.Ticket 52) ∷
    entry (normal 0 0) 6 take (reply.Started 51) ∷
    entry (normal 0 0) 7 finish (reply.Finished 51) ∷
    entry (caller 0) 45 (end 52) reply.Done ∷
    entry (caller 0) 46 (queue 0 0 0) (reply.Yes 56) ∷
    entry (caller 0) 47 (flush 0) (reply.Ticket 57) ∷
    entry (normal 0 0) 8 take (reply.Started 56) ∷
    entry (normal 0 0) 9 finish (reply.Finished 56) ∷
    entry (caller 0) 48 (end 57) reply.Done ∷
    entry (caller 0) 49 (queue 0 0 0) (reply.Yes 61) ∷
    entry (caller 0) 50 (flush 0) (reply.Ticket 62) ∷
    entry (normal 0 0) 10 take (reply.Started 61) ∷
    entry (normal 0 0) 11 finish (reply.Finished 61) ∷
    entry (caller 0) 51 (end 62) reply.Done ∷
    entry (caller 0) 52 (queue 0 0 0) (reply.Yes 66) ∷
    entry (caller 0) 53 (flush 0) (reply.Ticket 67) ∷
    entry (normal 0 0) 12 take (reply.Started 66) ∷
    entry (normal 0 0) 13 finish (reply.Finished 66) ∷
    entry (caller 0) 54 (end 67) reply.Done ∷
    entry (caller 0) 55 (queue 0 0 0) (reply.Yes 71) ∷
    entry (caller 0) 56 (flush 0) (reply.Ticket 72) ∷
    entry (normal 0 0) 14 take (reply.Started 71) ∷
    entry (normal 0 0) 15 finish (reply.Finished 71) ∷
    entry (caller 0) 57 (end 72) reply.Done ∷
    entry (caller 0) 58 (queue 0 0 0) (reply.Yes 76) ∷
    entry (caller 0) 59 (flush 0) (reply.Ticket 77) ∷
    entry (normal 0 0) 16 take (reply.Started 76) ∷
    entry (normal 0 0) 17 finish (reply.Finished 76) ∷
    entry (caller 0) 60 (end 77) reply.Done ∷
    entry (caller 0) 61 (queue 0 0 0) (reply.Yes 81) ∷
    entry (caller 0) 62 (flush 0) (reply.Ticket 82) ∷
    entry (normal 0 0) 18 take (reply.Started 81) ∷
    entry (normal 0 0) 19 finish (reply.Finished 81) ∷
    entry (caller 0) 63 (end 82) reply.Done ∷
    entry (caller 0) 64 (queue 0 0 0) (reply.Yes 86) ∷
    entry (caller 0) 65 (flush 0) (reply.Ticket 87) ∷
    entry (normal 0 0) 20 take (reply.Started 86) ∷
    entry (normal 0 0) 21 finish (reply.Finished 86) ∷
    entry (caller 0) 66 (end 87) reply.Done ∷
    entry (caller 0) 67 (queue 0 0 0) (reply.Yes 91) ∷
    entry (caller 0) 68 (flush 0) (reply.Ticket 92) ∷
    entry (normal 0 0) 22 take (reply.Started 91) ∷
    entry (normal 0 0) 23 finish (reply.Finished 91) ∷
    entry (caller 0) 69 (end 92) reply.Done ∷
    entry (caller 0) 70 (queue 0 0 0) (reply.Yes 96) ∷
    entry (caller 0) 71 (flush 0) (reply.Ticket 97) ∷
    entry (normal 0 0) 24 take (reply.Started 96) ∷
    entry (normal 0 0) 25 finish (reply.Finished 96) ∷
    entry (caller 0) 72 (end 97) reply.Done ∷
    entry (caller 0) 73 (queue 0 0 0) (reply.Yes 101) ∷
    entry (caller 0) 74 (flush 0) (reply.Ticket 102) ∷
    entry (normal 0 0) 26 take (reply.Started 101) ∷
    entry (normal 0 0) 27 finish (reply.Finished 101) ∷
    entry (caller 0) 75 (end 102) reply.Done ∷
    entry (caller 0) 76 (queue 0 0 0) (reply.Yes 106) ∷
    entry (caller 0) 77 (flush 0) (reply.Ticket 107) ∷
    entry (normal 0 0) 28 take (reply.Started 106) ∷
    entry (normal 0 0) 29 finish (reply.Finished 106) ∷
    entry (caller 0) 78 (end 107) reply.Done ∷
    entry (caller 0) 79 (queue 0 0 0) (reply.Yes 111) ∷
    entry (caller 0) 80 (flush 0) (reply.Ticket 112) ∷
    entry (normal 0 0) 30 take (reply.Started 111) ∷
    entry (normal 0 0) 31 finish (reply.Finished 111) ∷
    entry (caller 0) 81 (end 112) reply.Done ∷
    entry (caller 0) 82 (queue 0 0 0) (reply.Yes 116) ∷
    entry (caller 0) 83 (flush 0) (reply.Ticket 117) ∷
    entry (normal 0 0) 32 take (reply.Started 116) ∷
    entry (normal 0 0) 33 finish (reply.Finished 116) ∷
    entry (caller 0) 84 (end 117) reply.Done ∷
    entry (caller 0) 85 (queue 0 0 0) (reply.Yes 121) ∷
    entry (caller 0) 86 (flush 0) (reply.Ticket 122) ∷
    entry (normal 0 0) 34 take (reply.Started 121) ∷
    entry (normal 0 0) 35 finish (reply.Finished 121) ∷
    entry (caller 0) 87 (end 122) reply.Done ∷
    entry (caller 0) 88 (queue 0 0 0) (reply.Yes 126) ∷
    entry (caller 0) 89 (flush 0) (reply.Ticket 127) ∷
    entry (normal 0 0) 36 take (reply.Started 126) ∷
    entry (normal 0 0) 37 finish (reply.Finished 126) ∷
    entry (caller 0) 90 (end 127) reply.Done ∷
    entry (caller 0) 91 (queue 0 0 0) (reply.Yes 131) ∷
    entry (caller 0) 92 (flush 0) (reply.Ticket 132) ∷
    entry (normal 0 0) 38 take (reply.Started 131) ∷
    entry (normal 0 0) 39 finish (reply.Finished 131) ∷
    entry (caller 0) 93 (end 132) reply.Done ∷
    entry (caller 0) 94 (queue 0 0 0) (reply.Yes 136) ∷
    entry (caller 0) 95 (flush 0) (reply.Ticket 137) ∷
    entry (normal 0 0) 40 take (reply.Started 136) ∷
    entry (normal 0 0) 41 finish (reply.Finished 136) ∷
    entry (caller 0) 96 (end 137) reply.Done ∷
    entry (caller 0) 97 (queue 0 0 0) (reply.Yes 141) ∷
    entry (caller 0) 98 (flush 0) (reply.Ticket 142) ∷
    entry (normal 0 0) 42 take (reply.Started 141) ∷
    entry (normal 0 0) 43 finish (reply.Finished 141) ∷
    entry (caller 0) 99 (end 142) reply.Done ∷
    entry (caller 0) 100 (queue 0 0 0) (reply.Yes 146) ∷
    entry (caller 0) 101 (flush 0) (reply.Ticket 147) ∷
    entry (normal 0 0) 44 take (reply.Started 146) ∷
    entry (normal 0 0) 45 finish (reply.Finished 146) ∷
    entry (caller 0) 102 (end 147) reply.Done ∷
    entry (caller 0) 103 (queue 0 0 0) (reply.Yes 151) ∷
    entry (caller 0) 104 (flush 0) (reply.Ticket 152) ∷
    entry (normal 0 0) 46 take (reply.Started 151) ∷
    entry (normal 0 0) 47 finish (reply.Finished 151) ∷
    entry (caller 0) 105 (end 152) reply.Done ∷
    entry (caller 0) 106 (queue 0 0 0) (reply.Yes 156) ∷
    entry (caller 0) 107 (flush 0) (reply.Ticket 157) ∷
    entry (normal 0 0) 48 take (reply.Started 156) ∷
    entry (normal 0 0) 49 finish (reply.Finished 156) ∷
    entry (caller 0) 108 (end 157) reply.Done ∷
    entry (caller 0) 109 (queue 0 0 0) (reply.Yes 161) ∷
    entry (caller 0) 110 (flush 0) (reply.Ticket 162) ∷
    entry (normal 0 0) 50 take (reply.Started 161) ∷
    entry (normal 0 0) 51 finish (reply.Finished 161) ∷
    entry (caller 0) 111 (end 162) reply.Done ∷
    entry (caller 0) 112 (queue 0 0 0) (reply.Yes 166) ∷
    entry (caller 0) 113 (flush 0) (reply.Ticket 167) ∷
    entry (normal 0 0) 52 take (reply.Started 166) ∷
    entry (normal 0 0) 53 finish (reply.Finished 166) ∷
    entry (caller 0) 114 (end 167) reply.Done ∷
    entry (caller 0) 115 (queue 0 0 0) (reply.Yes 171) ∷
    entry (caller 0) 116 (flush 0) (reply.Ticket 172) ∷
    entry (normal 0 0) 54 take (reply.Started 171) ∷
    entry (normal 0 0) 55 finish (reply.Finished 171) ∷
    entry (caller 0) 117 (end 172) reply.Done ∷
    entry (caller 0) 118 (queue 0 0 0) (reply.Yes 176) ∷
    entry (caller 0) 119 (flush 0) (reply.Ticket 177) ∷
    entry (normal 0 0) 56 take (reply.Started 176) ∷
    entry (normal 0 0) 57 finish (reply.Finished 176) ∷
    entry (caller 0) 120 (end 177) reply.Done ∷
    entry (caller 0) 121 (queue 0 0 0) (reply.Yes 181) ∷
    entry (caller 0) 122 (flush 0) (reply.Ticket 182) ∷
    entry (normal 0 0) 58 take (reply.Started 181) ∷
    entry (normal 0 0) 59 finish (reply.Finished 181) ∷
    entry (caller 0) 123 (end 182) reply.Done ∷
    entry (caller 0) 124 (queue 0 0 0) (reply.Yes 186) ∷
    entry (caller 0) 125 (flush 0) (reply.Ticket 187) ∷
    entry (normal 0 0) 60 take (reply.Started 186) ∷
    entry (normal 0 0) 61 finish (reply.Finished 186) ∷
    entry (caller 0) 126 (end 187) reply.Done ∷
    entry (caller 0) 127 (queue 0 0 0) (reply.Yes 191) ∷
    entry (caller 0) 128 (flush 0) (reply.Ticket 192) ∷
    entry (normal 0 0) 62 take (reply.Started 191) ∷
    entry (normal 0 0) 63 finish (reply.Finished 191) ∷
    entry (caller 0) 129 (end 192) reply.Done ∷
    entry (caller 0) 130 (queue 0 0 0) (reply.Yes 196) ∷
    entry (caller 0) 131 (flush 0) (reply.Ticket 197) ∷
    entry (normal 0 0) 64 take (reply.Started 196) ∷
    entry (normal 0 0) 65 finish (reply.Finished 196) ∷
    entry (caller 0) 132 (end 197) reply.Done ∷
    entry (caller 0) 133 (queue 0 0 0) (reply.Yes 201) ∷
    entry (caller 0) 134 (flush 0) (reply.Ticket 202) ∷
    entry (normal 0 0) 66 take (reply.Started 201) ∷
    entry (normal 0 0) 67 finish (reply.Finished 201) ∷
    entry (caller 0) 135 (end 202) reply.Done ∷
    [])
