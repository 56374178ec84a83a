-- A guest whose instance is made.
use Rattle.std.proofs.Common.{◌≡◌, ◌∙◌, ℕ, List, ◌∷◌, Some, ap, sym, subst}
use Rattle.std.specs.Prelude.{Ok, Err}
use Rattle.cache_types.specs.declared.outer.OuterReply.{OuterReply}
use Rattle.cache_types.specs.declared.outer.Outcome.TheVariants as outcome
use Rattle.cache_types.specs.declared.outer.TrapNumber.TheVariants as number
use Rattle.wasm_types.specs.declared.values.TrapKind.{TrapKind}
use Rattle.wasm_types.specs.declared.values.TrapKind.TheVariants.{Segment}
use Rattle.wasm_types.specs.declared.modules.Module.{Module}
use Rattle.wasm_meaning.specs.declared.off.Off.{Off}
use Rattle.wasm_meaning.specs.declared.off.Off.TheVariants.{Trap}
use Rattle.wasm_meaning.specs.World.{World}
use Rattle.wasm_meaning.specs.Frames.{Program as Code}
use Rattle.wasm_meaning.specs.Instance.{Instance, IsProgram, instance_of}
use Rattle.module_machine.specs.declared.machine.Machine.{Machine}
use Rattle.module_machine.specs.Shared.{IsImage}
use Rattle.module_machine.specs.Standing.{Starts, IsIdle}
use Rattle.player.specs.Plays.{Program}
use Rattle.guest_calls.specs.declared.tables.GuestTables.{GuestTables}
use Rattle.guest_run.specs.declared.service.Service.{Service}
use Rattle.guest_run.specs.Next.{Entry, trap_number, ends}
use Rattle.guest_run.specs.Origins.{Origin, Begins, Faults, IsOrigin, IsFirst, AreEntries, starts_from, behind_begin}
use Rattle.edge_body.specs.Heads.{Request}
use Rattle.edge_imports.specs.Links.{LinkedModule}
use Rattle.guest_calls.specs.declared.call.Call.{Call}
use Rattle.guest_calls.specs.Rows.{first_tables}
use Rattle.guest_run.specs.Services.{IsServiceOf, IsGuestProgram, starts_in}
use Rattle.guest_run.specs.Lives.{IsNext, IsEnding}
use Rattle.guest_run.specs.Guests.{IsBeginning}
use Rattle.guest_run.proofs.Linking.{answered_calls}

same_instance : (m : Module) (i j : Instance) → instance_of m ≡ Ok i → instance_of m ≡ Ok j → i ≡ j
same_instance m i j one other = cc

not_both : (m : Module) (i : Instance) (off : Off) → instance_of m ≡ Ok i → instance_of m ≡ Err off → ⊥
not_both m i off one other = cc

idle_there : (m : Module) (machine : Machine) (code : Code) (entries : List Entry) (w : World) (start : ℕ) → Starts m (Ok machine) → IsFirst m start code entries w → IsIdle code w machine
idle_there m machine code entries w start (i, is, idle) f =
    let same : i ≡ f.begun = same_instance m i f.begun is f.instance_is in
    let there : IsIdle code f.begun.world machine = subst (λ (j : Instance). IsIdle code j.world machine) same (idle code (subst (λ (j : Instance). IsProgram m j code) (sym same) f.program)) in
    subst (λ (v : World). IsIdle code v machine) (sym f.world_is) there

-- the instance was made
pub begins_in : (service : Service) (t : GuestTables) (meaning : Program) (machine : Machine) → IsBeginning service t meaning → ((m : Module) → IsImage m service.image → Starts m (Ok machine)) → IsNext service.calls.items meaning service.fuel (starts_in service) machine t
begins_in service t meaning machine h made = with h.origin h.begins h.goes
  where
    with : (origin : Origin) → IsOrigin h.of.whole h.of.links.start origin → ((replies : List OuterReply) → meaning replies ≡ behind_begin origin service.calls.items service.fuel t replies) → IsNext service.calls.items meaning service.fuel (starts_in service) machine t
    with (Begins code entries w) first goes = record {
      code = code;
      entries = entries;
      world = w;
      answered = answered_calls h.of.whole h.of.links service.calls.items first.begun code h.is_service.linked_is h.is_service.calls first.program;
      follow = subst (λ (l : LinkedModule). AreEntries code (starts_from l.whole.start l.links.start) entries) (sym h.is_service.same) first.entries_are;
      idle = idle_there h.of.whole machine code entries w h.of.links.start (made h.of.whole h.is_service.image) first;
      goes = goes;
    }
    with (Faults kind) fault goes = let starts = made h.of.whole h.is_service.image in absurd (not_both h.of.whole starts.0 (Trap kind) starts.1 fault)

same_trap : (m : Module) (one other : TrapKind) → instance_of m ≡ Err (Trap one) → instance_of m ≡ Err (Trap other) → one ≡ other
same_trap m one other first second = cc

-- a segment is out of bounds
pub segment_ends : (service : Service) (t : GuestTables) (meaning : Program) → IsBeginning service t meaning → ((m : Module) → IsImage m service.image → instance_of m ≡ Err (Trap Segment)) → IsEnding meaning (outcome.Trapped number.Segment)
segment_ends service t meaning h made = with h.origin h.begins h.goes
  where
    with : (origin : Origin) → IsOrigin h.of.whole h.of.links.start origin → ((replies : List OuterReply) → meaning replies ≡ behind_begin origin service.calls.items service.fuel t replies) → IsEnding meaning (outcome.Trapped number.Segment)
    with (Begins code entries w) first goes = absurd (not_both h.of.whole first.begun (Trap Segment) first.instance_is (made h.of.whole h.is_service.image))
    with (Faults kind) fault goes =
        let same = same_trap h.of.whole kind Segment fault (made h.of.whole h.is_service.image) in
        λ replies. goes replies ∙ ap (λ (k : TrapKind). ends (outcome.Trapped (trap_number k)) replies) same

same_calls : (cs ds : List Call) → Some cs ≡ Some ds → cs ≡ ds
same_calls cs ds e = cc

-- a guest before its Begin
pub fresh_begins : (l : LinkedModule) (service : Service) (index : ℕ) (head : Request) (body : List ℕ) (program : Program) → IsServiceOf l service → (h : IsGuestProgram l service.settings.now service.fuel service.random index head body program) → (reply : OuterReply) → IsBeginning service (first_tables service.settings.now service.random index head body) (λ replies. program (reply ∷ replies))
fresh_begins l service index head body program is h reply = record {
  of = l;
  is_service = is;
  origin = h.origin;
  begins = h.begins;
  goes = λ replies. h.does (reply ∷ replies) ∙ ap (λ (cs : List Call). behind_begin h.origin cs service.fuel (first_tables service.settings.now service.random index head body) replies) (same_calls h.calls service.calls.items (sym h.calls_are ∙ is.calls));
}
