use Rattle.cmwq_json_script.specs.Views.{top_of}
use Rattle.cmwq_json_script.proofs.Within.{few_queue_names}
use Rattle.cmwq_json_script.proofs.script.with_queues.Goals as goal

pub new-requires : goal.new-requires
new-requires c =
    record {
      few =
          few_queue_names (top_of c.args.top.now) c.args.queues.names.keys c.args.queues.values.items c.requires;
      most =
          c.items_in.ensures.most;
    }
