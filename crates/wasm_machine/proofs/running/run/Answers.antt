use Rattle.std.proofs.Common.{◌≡◌, ℕ, ap, ◌∙◌, Ok}
use Rattle.wasm_flat.specs.declared.thread.Thread.{Thread}
use Rattle.wasm_flat.specs.declared.halt.Next.{Next}
use Rattle.wasm_flat.specs.declared.halt.Next.TheVariants.{On, Import, Over, Dry}
use Rattle.wasm_flat.specs.Flat.{advanced}
use Rattle.wasm_machine.proofs.Simulation.{goes_on, calls_out, is_over, is_dry, halts_so}
use Rattle.wasm_machine.proofs.running.run.Goals as goal

-- what was made, with what it leads to
made_as : (left : ℕ) (t new : Thread) (m n : Next) → m ≡ n → advanced left t ≡ Ok (m, new) → advanced left t ≡ Ok (n, new)
made_as left t new m n e h = h ∙ ap (λ x. Ok (x, new)) e

pub loop-preserved : goal.loop-preserved
loop-preserved c = λ program s a free.
    goes_on program c.args.fuel c.loop.left c.advance.new.left s c.loop.thread c.advance.new.self free (c.loop.invariant program s a free)
    (made_as c.loop.left c.loop.thread c.advance.new.self c.in-Ok-On.field-0 On c.in-Ok-On.field-0-is c.in-Ok-On.ensures.made) c.in-Ok-On.ensures.spent

pub returns-in-Ok-Import : goal.returns-in-Ok-Import
returns-in-Ok-Import c = λ program s a free.
    calls_out program c.args.fuel c.loop.left c.advance.new.left c.in-Ok-Import.import s c.loop.thread c.advance.new.self c.call_out.new.thread c.call_out.result free (c.loop.invariant program s a free)
    (made_as c.loop.left c.loop.thread c.advance.new.self c.in-Ok-Import.field-0 (Import c.in-Ok-Import.import) c.in-Ok-Import.field-0-is c.in-Ok-Import.ensures.made) c.in-Ok-Import.ensures.spent c.call_out.ensures

pub returns-in-Ok-Over : goal.returns-in-Ok-Over
returns-in-Ok-Over c = λ program s a free.
    is_over program c.args.fuel c.loop.left c.advance.new.left s c.loop.thread c.advance.new.self free (c.loop.invariant program s a free)
    (made_as c.loop.left c.loop.thread c.advance.new.self c.in-Ok-Over.field-0 Over c.in-Ok-Over.field-0-is c.in-Ok-Over.ensures.made) c.in-Ok-Over.ensures.spent

pub returns-in-Ok-Dry : goal.returns-in-Ok-Dry
returns-in-Ok-Dry c = λ program s a free.
    is_dry program c.args.fuel c.loop.left c.advance.new.left s c.loop.thread c.advance.new.self free (c.loop.invariant program s a free)
    (made_as c.loop.left c.loop.thread c.advance.new.self c.in-Ok-Dry.field-0 Dry c.in-Ok-Dry.field-0-is c.in-Ok-Dry.ensures.made) c.in-Ok-Dry.ensures.spent

pub returns-in-Err : goal.returns-in-Err
returns-in-Err c = λ program s a free.
    halts_so program c.args.fuel c.loop.left c.advance.new.left s c.loop.thread c.advance.new.self c.in-Err.halt c.stop_by.result free (c.loop.invariant program s a free)
    c.in-Err.ensures.made c.in-Err.ensures.kept c.in-Err.ensures.spent c.stop_by.ensures
