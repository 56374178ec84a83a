use Rattle.std.proofs.Common.{ap, sym, ◌∙◌, ◌==◌, ◌∷◌, ◌++◌, [], if◌then◌else◌, Some, List, ℕ, subst, ◌≡◌, true, refl}
use Rattle.std.specs.Prelude.{option_map}
use Rattle.cache_types.specs.Objects.{insertions, has_key}
use Rattle.cache_objects.specs.Standings.{standing_at, fresh}
use Rattle.cache_purge.specs.Keys.{named_at}
use Rattle.cache_core.specs.Knows.{is_named}
use Rattle.cache_core.proofs.Makers.{knows_same}
use Rattle.cache_objects.specs.Guests.{list_at}
use Rattle.cache_core.proofs.Results.{always_err}
use Rattle.cache_core.proofs.Makers.{knows_made, object_number}
use Rattle.cache_core.proofs.Junk.{at_is, knows_junk}
use Rattle.cache_core.proofs.making.tell_made.Goals as goal

pub returns-in_err-make_room-clause-kept : goal.returns-in_err-make_room-clause-kept
returns-in_err-make_room-clause-kept c =
    always_err c.from_residual-in_err-make_room.result
    (λ past legal number knows. knows_junk c.args.parts.now (record c.args.parts.now { objects = c.make.new.objects; guests = c.make_room.new.guests; bearers = c.add_all.new.keys }) past c.args.number (fresh c.args.number c.args.guest c.args.declared) (λ s. s) c.in_ok-make.ensures.made c.make_room.ensures.same c.add_all.ensures.more legal number knows)

pub returns-in_err-insert-clause-kept : goal.returns-in_err-insert-clause-kept
returns-in_err-insert-clause-kept c =
    always_err c.from_residual-in_err-insert.result
    (λ past legal number knows. knows_junk c.args.parts.now (record { index = c.insert.new.self; objects = c.make.new.objects; guests = c.make_room.new.guests; bearers = c.add_all.new.keys }) past c.args.number (fresh c.args.number c.args.guest c.args.declared) (λ s. c.in_err-insert.ensures.unchanged (insertions past) s) c.in_ok-make.ensures.made c.make_room.ensures.same c.add_all.ensures.more legal number knows)

pub returns-clause-told : goal.returns-clause-told
returns-clause-told c = λ past e made terms legal begin end news number guest slot declared surrogates knows.
    knows_made c.args.parts.now (record { index = c.insert.new.self; objects = c.make.new.objects; guests = c.add.new.guests; bearers = c.add_all.new.keys }) past e made terms legal begin end news
    (c.in_ok-insert.ensures.told made (insertions past) (object_number past e made terms news ∙ number) slot knows.told)
    (λ q. c.in_ok-make.ensures.made q ∙ ap (λ b. if b then Some (fresh c.args.number c.args.guest c.args.declared) else standing_at c.args.parts.now.objects q) (at_is c.args.number q)
    ∙ ap (λ n. if n == q then Some (fresh n c.args.guest c.args.declared) else standing_at c.args.parts.now.objects q) (sym number)
    ∙ ap (λ g. if e.number == q then Some (fresh e.number g c.args.declared) else standing_at c.args.parts.now.objects q) (sym guest)
    ∙ ap (λ d. if e.number == q then Some (fresh e.number e.guest d) else standing_at c.args.parts.now.objects q) (sym declared))
    (λ q. c.add.ensures q ∙ ap (λ l. if c.args.guest == q then option_map (λ (list : List ℕ). list ++ c.args.number ∷ []) l else l) (c.make_room.ensures.same q)
    ∙ ap (λ n. if c.args.guest == q then option_map (λ (list : List ℕ). list ++ n ∷ []) (list_at c.args.parts.now.guests q) else list_at c.args.parts.now.guests q) (sym number)
    ∙ ap (λ g. if g == q then option_map (λ (list : List ℕ). list ++ e.number ∷ []) (list_at c.args.parts.now.guests q) else list_at c.args.parts.now.guests q) (sym guest))
    c.add_all.ensures.more
    (λ key is. subst (λ n. is_named n (named_at c.add_all.new.keys key) ≡ true) (sym number) (c.in_ok-add_all.ensures.named key (ap (λ l. has_key l key) (sym surrogates) ∙ is)))
    knows

pub returns-in_err-add_all-clause-kept : goal.returns-in_err-add_all-clause-kept
returns-in_err-add_all-clause-kept c =
    always_err c.from_residual.result (λ past legal number knows. knows_same c.args.parts.now (record c.args.parts.now { bearers = c.add_all.new.keys }) past (λ s. s) (λ o some. refl) (λ q. refl) c.add_all.ensures.more knows)

pub returns-in_err-make-clause-kept : goal.returns-in_err-make-clause-kept
returns-in_err-make-clause-kept c =
    always_err c.from_residual-in_err-make.result (λ past legal number knows. knows_same c.args.parts.now (record c.args.parts.now { objects = c.make.new.objects; bearers = c.add_all.new.keys }) past (λ s. s) (λ o some. c.in_err-make.ensures.unchanged o) (λ q. refl) c.add_all.ensures.more knows)
