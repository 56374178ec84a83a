use Rattle.std.proofs.Common.{append_assoc}
use Rattle.wasm_writer.specs.Spelled.{module_text}
use Rattle.wasm_writer.proofs.module.write_whole.Goals as goal

pub returns : goal.returns
unfolding module_text
returns c =
    rw (c.in_ok-write_list-10.ensures, c.in_ok-write_list-9.ensures, c.in_ok-write_list-8.ensures, c.in_ok-write_start.ensures, c.in_ok-write_list-7.ensures, c.in_ok-write_list-6.ensures, c.in_ok-write_list-5.ensures, c.in_ok-write_list-4.ensures, c.in_ok-write_list-3.ensures, c.in_ok-write_list-2.ensures, c.in_ok-write_list.ensures, c.in_ok-out.ensures.items)
    (simp append_assoc)
