use Rattle.wasm_writer.specs.Shortest.{ReadsBack, IsShortest}
use Rattle.wasm_writer.proofs.BestModule.{module_reads, module_shortest, written}
use Rattle.wasm_writer.proofs.module.write_module.Goals as goal

pub returns-clause-reads : goal.returns-clause-reads
returns-clause-reads c = written (λ bytes. bytes.items) c.args.module.now (ReadsBack c.args.module.now) c.write_whole.result (module_reads c.args.module.now) c.write_whole.ensures

pub returns-clause-shortest : goal.returns-clause-shortest
returns-clause-shortest c = written (λ bytes. bytes.items) c.args.module.now (IsShortest c.args.module.now) c.write_whole.result (module_shortest c.args.module.now) c.write_whole.ensures
