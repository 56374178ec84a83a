use Rattle.std.proofs.Common.{refl, List}
use Rattle.cache_types.specs.declared.outer.OuterReply.{OuterReply}
use Rattle.guest_calls.specs.Rows.{first_tables}
use Rattle.guest_run.specs.Origins.{next}
use Rattle.guest_run.proofs.Existing.{origin_of}
use Rattle.guest_run.proofs.laws.each_guest_has_a_program.Goals as goal

pub returns : goal.returns
returns c = λ l service index head body is.
    let w = origin_of c.valid_modules_start_typed.ensures.unstuck l service is in (
      λ (replies : List OuterReply). next w.0 service.calls.items service.fuel (first_tables service.settings.now service.random index head body) replies,
      record {
        calls = service.calls.items;
        calls_are = is.calls;
        origin = w.0;
        begins = w.1;
        does = λ replies. refl;
      },
    )
