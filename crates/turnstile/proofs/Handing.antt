-- Passes are cut in two and put together, and a pass learns what is published.
use Rattle.std.proofs.Common.{◌≡◌, ◌≢◌, ℕ, zero, suc, ◌+◌, ◌<◌, ◌≤◌, leb, cond, Bool, true, false, List, [], ◌∷◌, ◌++◌, map, length, get_or, take, set, refl, sym, ap, ◌∙◌, subst, ⊎_elim, arith, Option, None}
use mathlib.Core.Option as option
use mathlib.Core.Option.{some, none, some-injective, some-ne-none}
use mathlib.Core.Logic.{dite}
use native.Mathlib.Decide.{ℕ_discrete}
use mathlib.Core.List.{IsPrefix}
use lib.ListN.{get_elem?}
use Rattle.std.proofs.lemmas.Bool.Decides.{nat_tests}
use Rattle.std.proofs.lemmas.List.{length-append, length-map, length-set, length-take-le}
use Rattle.std.proofs.lemmas.List.Sums.{sum_by_push}
use Rattle.atomic_table.specs.Table.{State, Me, Act, step, keeps, stepped, Allows, Splits, Joins}
use Rattle.atomic_table.proofs.Lists.{at_set, at_map}
use Rattle.turnstile.specs.declared.view.View.{View}
use Rattle.turnstile.specs.Log.{IsShare, entries_of, handed, merged, Families}
use Rattle.turnstile.specs.Rule.{turn_of, inside_of, Sees, Knows, Stands}
use Rattle.turnstile.specs.Plays.{Learned, Settled, longer, shorter, kept_part, new_part, joined, spent_view}
use Rattle.turnstile.proofs.Logs.{owned_none, owned_handed-own, owned_handed-spent, owned_handed-other, handed_own, handed_other, entries_of-handed, at_unmap}
use Rattle.turnstile.proofs.Lists.{at_bound, at_snoc_place, same_some, seats_set, sum_set, prefix_of_two}
use Rattle.turnstile.proofs.Seats.{inside_other, sees_all, sees_prefix, share}
use Rattle.turnstile.proofs.Turning.{quiet, share_of, spelled}

module _ {E : Type 0} where
  entries_take-handed : (a b c : ℕ) (log : List (ℕ × E)) → entries_of (take c (map (handed a b) log)) ≡ entries_of (take c log)
  entries_take-handed a b zero [] = refl
  entries_take-handed a b (suc c) [] = refl
  entries_take-handed a b zero (x ∷ xs) = refl
  entries_take-handed a b (suc c) (x ∷ xs) = ap (λ (l : List E). x.1 ∷ l) (entries_take-handed a b c xs)

  sees_length : (base : List E) (log : List (ℕ × E)) (j : ℕ) (seen : List E) (s : Sees base log j seen) → length seen ≡ length base + s.count
  sees_length base log j seen s =
      ap length s.list ∙ (length-append base (entries_of (take s.count log)) ∙ ap (λ (n : ℕ). length base + n) (length-map (take s.count log) (λ (x : ℕ × E). x.1) ∙ length-take-le s.count log s.within))

  -- who made an entry, once one seat has taken over from another
  maker_after : (a b : ℕ) (x y : ℕ × E) (j : ℕ) → handed a b x ≡ y → (x.0 ≡ b → a ≢ j) → (x.0 ≢ b → x.0 ≢ j) → y.0 ≢ j
  maker_after a b x y j is taken other = dite (ℕ_discrete x.0 b)
      (λ e. let h = ap (λ (z : ℕ × E). z.0) (sym (handed_own a b x e) ∙ is) in λ s. taken e (h ∙ s))
      (λ ne. let h = ap (λ (z : ℕ × E). z.0) (sym (handed_other a b x ne) ∙ is) in λ s. other ne (h ∙ s))

  sees_handed : (base : List E) (log : List (ℕ × E)) (a b j : ℕ) (seen : List E) (s : Sees base log j seen) → ((i : ℕ) (x : ℕ × E) → s.count ≤ i → get_elem? log i ≡ some x → x.0 ≡ b → a ≢ j) → Sees base (map (handed a b) log) j seen
  sees_handed base log a b j seen s apart = let within = s.within in record {
    count = s.count;
    within = omega (arith, length-map log (handed a b));
    list = s.list ∙ ap (λ (l : List E). base ++ l) (sym (entries_take-handed a b s.count log));
    others = λ i y le at. let x = at_unmap (handed a b) log i y at in maker_after a b x.0 y j x.2 (apart i x.0 le x.1) (λ _. s.others i x.0 le x.1);
  }

  sees_both : (base : List E) (log : List (ℕ × E)) (a b : ℕ) (xs ys : List E) → Sees base log a xs → Sees base log b ys → Sees base (map (handed a b) log) a (longer xs ys)
  sees_both base log a b xs ys s t =
      let ls = sees_length base log a xs s in
      let lt = sees_length base log b ys t in
      by_test (leb (length ys) (length xs)) refl ls lt
    where
      by_test : (r : Bool) → leb (length ys) (length xs) ≡ r → length xs ≡ length base + s.count → length ys ≡ length base + t.count → Sees base (map (handed a b) log) a (cond r xs ys)
      by_test true is ls lt = let le : t.count ≤ s.count = grind (arith, nat_tests) in sees_handed base log a b a xs s (λ i x more at theirs. absurd (t.others i x (omega arith) at theirs))
      by_test false is ls lt = let le : s.count ≤ t.count = grind (arith, nat_tests) in let within = t.within in record {
        count = t.count;
        within = omega (arith, length-map log (handed a b));
        list = t.list ∙ ap (λ (l : List E). base ++ l) (sym (entries_take-handed a b t.count log));
        others = λ i y more at. let x = at_unmap (handed a b) log i y at in maker_after a b x.0 y a x.2 (λ theirs. absurd (t.others i x.0 more x.1 theirs)) (λ _. s.others i x.0 (omega arith) x.1);
      }

  shorter_prefix : (xs ys all : List E) → IsPrefix xs all → IsPrefix ys all → IsPrefix (shorter xs ys) all
  shorter_prefix xs ys all p q = by_test (leb (length ys) (length xs))
    where
      by_test : (r : Bool) → IsPrefix (cond r ys xs) all
      by_test true = q
      by_test false = p

  families_handed : (family : E → ℕ) (n a b : ℕ) (log : List (ℕ × E)) → Families family n log → Families family n (map (handed a b) log)
  families_handed family n a b log families i y at =
      let x = at_unmap (handed a b) log i y at in
      let found = families i x.0 x.1 in
      subst (λ (z : ℕ × E). (m : ℕ) × (n + m ≡ family z.1) × (m ≤ i) × ((o : E) × (get_elem? (map (handed a b) log) m ≡ some (z.0, o)) × (family o ≡ family z.1))) x.2
      (found.0, found.1, found.2, (found.3.0, at_map (handed a b) log found.0 (x.0.0, found.3.0) found.3.1, found.3.2))

module _ {T E : Type 0} (entries : T → List E) (first : T → ℕ) (fits : T → List E → T → Type 0) (family : E → ℕ) (start : T) where
  abbrev V : Type 0
  V = View T E

  abbrev St : Type 0
  St = State (Option T) V

  abbrev base : List E
  base = entries start

  abbrev next : ℕ
  next = first start + length (entries start)

  abbrev Rule : St → Type 0
  Rule = Stands start base next (fits start) family

  abbrev whole : List (ℕ × E) → List E
  whole log = base ++ entries_of log

  abbrev parts_of : V → ℕ
  parts_of v = v.parts

  -- split
  newcomer : (o : option.Option ℕ) (m : ℕ) (l : List E) → ((j : ℕ) → o ≡ some j → j < m) → inside_of o m l ≡ None
  newcomer none m l held = refl
  newcomer (some j) m l held = let h = held j refl in inside_other j m l (λ e. absurd (omega arith))

  pub splits : (id : ℕ) (v : V) (n : ℕ) → v.inside ≡ None → 0 < n → n < v.parts → Splits Rule id v (kept_part n v) (new_part n v)
  splits id v n outside some_parts fewer s r at =
      let k = r.seats id v at in
      let left : V = kept_part n v in
      let right : V = new_part n v in
      let vs = set s.views id left in
      let m : ℕ = length s.views in
      let long : length (vs ++ right ∷ []) ≡ m + 1 = omega (arith, length-append vs (right ∷ []), length-set s.views id left) in
      let left_knows : Knows start base next r.log r.holder id left = record {
        made = k.made;
        place = k.place;
        told = k.told;
        origin = λ _. k.origin (omega arith);
        sight = λ _. k.sight (omega arith);
        spent = λ e. absurd (omega arith);
      } in
      let seen = k.sight (omega arith) in
      let right_knows : Knows start base next r.log r.holder m right = record {
        made = sym (owned_none m next r.log (λ i x there. let b = r.makers i x there in λ e. absurd (omega arith)));
        place = outside ∙ sym (newcomer r.holder m (whole r.log) r.held);
        told = k.told;
        origin = λ _. k.origin (omega arith);
        sight = λ _. record { count = seen.count; within = seen.within; list = seen.list; others = λ i x le there. let b = r.makers i x there in λ e. absurd (omega arith) };
        spent = λ e. absurd (omega arith);
      } in
      let all_left = seats_set (λ j d. Knows start base next r.log r.holder j d) s.views id left left_knows (λ j d _ there. r.seats j d there) in
      let sum = sum_set parts_of s.views id v left at in
      let sum_right = sum_by_push parts_of vs right in
      let was = r.parts in
      record {
        log = r.log;
        holder = r.holder;
        words = r.words;
        home = r.home;
        held = λ j e. let h = r.held j e in omega arith;
        makers = λ i x e. let h = r.makers i x e in omega arith;
        older = r.older;
        families = r.families;
        seats = λ j d e. ⊎_elim (all_left j d)
            (λ (t : (j ≡ length vs) × (right ≡ d)). subst (λ (x : ℕ × V). Knows start base next r.log r.holder x.0 x.1) (let place : m ≡ j = sym (length-set s.views id left) ∙ sym t.0 in λ i. (place i, t.1 i)) right_knows)
            (at_snoc_place vs right d j e);
        parts = omega arith;
      }

  -- rejoin
  knows_handed : (log : List (ℕ × E)) (o : option.Option ℕ) (a b j : ℕ) (d : V) → j ≢ a → j ≢ b → Knows start base next log o j d → Knows start base next (map (handed a b) log) o j d
  knows_handed log o a b j d not_a not_b k = let same : whole (map (handed a b) log) ≡ whole log = ap (λ (l : List E). base ++ l) (entries_of-handed a b log) in record {
    made = k.made ∙ sym (owned_handed-other a b j next log not_a not_b);
    place = k.place ∙ ap (inside_of o j) (sym same);
    told = subst (IsPrefix d.told) (sym same) k.told;
    origin = k.origin;
    sight = λ live. sees_handed base log a b j d.seen (k.sight live) (λ i x le at theirs e. not_a (sym e));
    spent = k.spent;
  }

  pub joins : (id : ℕ) (v : V) (other : ℕ) (w : V) → 0 < v.parts → 0 < w.parts → w.inside ≡ None → Joins Rule id v other w (joined v w) spent_view
  joins id v other w live live' outside s r at apart there =
      let both : V = joined v w in
      let theirs : get_elem? s.views other ≡ some w = ⊎_elim (λ (t : (other ≡ id) × (both ≡ w)). absurd (apart t.0)) (λ (t : (other ≢ id) × (get_elem? s.views other ≡ some w)). t.1) (at_set s.views id other both w there) in
      let k = r.seats id v at in
      let l = r.seats other w theirs in
      let log = r.log in
      let log' : List (ℕ × E) = map (handed id other) log in
      let not_other : id ≢ other = λ e. apart (sym e) in
      let same : whole log' ≡ whole log = ap (λ (m : List E). base ++ m) (entries_of-handed id other log) in
      let sv = k.sight live in
      let sw = l.sight live' in
      let both_knows : Knows start base next log' r.holder id both = record {
        made = (λ i. merged (k.made i) (l.made i)) ∙ sym (owned_handed-own id other next log not_other);
        place = k.place ∙ ap (inside_of r.holder id) (sym same);
        told = subst (IsPrefix both.told) (sym same) (shorter_prefix v.seen w.seen (whole log) (sees_prefix base log id v.seen sv) (sees_prefix base log other w.seen sw));
        origin = λ _. k.origin live;
        sight = λ _. sees_both base log id other v.seen w.seen sv sw;
        spent = λ e. absurd (omega arith);
      } in
      let spent_knows : Knows start base next log' r.holder other spent_view = record {
        made = sym (owned_handed-spent id other next log not_other);
        place = sym outside ∙ (l.place ∙ ap (inside_of r.holder other) (sym same));
        told = (whole log', refl);
        origin = λ h. absurd (omega arith);
        sight = λ h. absurd (omega arith);
        spent = λ _. (refl, refl);
      } in
      let vs = set s.views id both in
      let long : length (set vs other spent_view) ≡ length s.views = length-set vs other spent_view ∙ length-set s.views id both in
      let sum = sum_set parts_of s.views id v both at in
      let sum' = sum_set parts_of vs other w spent_view there in
      let was = r.parts in
      record {
        log = log';
        holder = r.holder;
        words = r.words ∙ ap (λ (n : ℕ). turn_of r.holder ∷ n ∷ []) (sym (length-map log (handed id other)));
        home = λ free. let h = r.home free in (h.0, h.1, subst (λ (m : List E). fits start m h.0) (sym same) h.2);
        held = λ j e. let h = r.held j e in omega arith;
        makers = λ i y e. let x = at_unmap (handed id other) log i y e in let h = r.makers i x.0 x.1 in let b = at_bound s.views id v at in
            subst (λ (n : ℕ). y.0 < n) (sym long) (dite (ℕ_discrete x.0.0 other)
            (λ own. subst (λ (n : ℕ). n < length s.views) (ap (λ (z : ℕ × E). z.0) (sym (handed_own id other x.0 own) ∙ x.2)) b)
            (λ third. subst (λ (n : ℕ). n < length s.views) (ap (λ (z : ℕ × E). z.0) (sym (handed_other id other x.0 third) ∙ x.2)) h));
        older = r.older;
        families = families_handed family next id other log r.families;
        seats = seats_set (λ j d. Knows start base next log' r.holder j d) vs other spent_view spent_knows
            (λ j d not_spent e. seats_set (λ j d. j ≢ other → Knows start base next log' r.holder j d) s.views id both (λ _. both_knows) (λ j d third e unspent. knows_handed log r.holder id other j d third unspent (r.seats j d e)) j d e not_spent);
        parts = omega arith;
      }

  -- learn
  pub learns : (slots id : ℕ) (v : V) → 0 < v.parts → Allows Rule slots id (v, []) 1 (λ n. n) (Learned entries first fits family (step slots 1 0 0 none) (v, []))
  learns slots id v live s r fit at small =
      let k = r.seats id v at in
      let log = r.log in
      let w : V = record v { seen = whole log } in
      spelled entries first fits family start s r
      (λ (ws : List ℕ). (w : V) × (a : Act (Option T)) × Rattle.atomic_table.specs.Table.Valid s.homes [] a × Rule (stepped record { words = ws; homes = s.homes; views = s.views } 1 (get_or ws 1 0) id [] w a)
      × Learned entries first fits family (step slots 1 0 0 none) (v, []) (get_or ws 1 0) (w, Rattle.atomic_table.specs.Table.carried_after [] a)) (
        w,
        keeps,
        tt,
        quiet entries first fits family start s r id v w at refl record { made = k.made; place = k.place; told = k.told; origin = k.origin; sight = λ _. sees_all base log id; spent = λ e. absurd (omega arith) },
        (
          whole log,
          refl,
          sees_prefix base log id v.seen (k.sight live),
          (λ other from. let same : start ≡ other = same_some (sym (k.origin live) ∙ from) in subst (λ (t : T). length (whole log) ≡ length (entries t) + length log) same (length-append base (entries_of log) ∙ ap (λ (n : ℕ). length base + n) (length-map log (λ (x : ℕ × E). x.1)))),
          (λ other from. let same : start ≡ other = same_some (sym (k.origin live) ∙ from) in
              subst (λ (t : T). IsShare (entries t) (first t + length (entries t)) family (whole log) v.mine) same (share family base next log id (whole log) v.mine r.older r.families (sees_all base log id) k.made)),
        ),
      )

  pub settles : (slots id : ℕ) (v : V) → 0 < v.parts → Allows Rule slots id (v, []) 0 (λ n. n) (Settled entries first fits family (step slots 0 0 0 none) (v, []))
  settles slots id v live s r fit at small =
      let k = r.seats id v at in
      let log = r.log in
      let w : V = record v { told = [] } in
      spelled entries first fits family start s r
      (λ (ws : List ℕ). (w : V) × (a : Act (Option T)) × Rattle.atomic_table.specs.Table.Valid s.homes [] a × Rule (stepped record { words = ws; homes = s.homes; views = s.views } 0 (get_or ws 0 0) id [] w a)
      × Settled entries first fits family (step slots 0 0 0 none) (v, []) (get_or ws 0 0) (w, Rattle.atomic_table.specs.Table.carried_after [] a)) (
        w,
        keeps,
        tt,
        quiet entries first fits family start s r id v w at refl record { made = k.made; place = k.place; told = (whole log, refl); origin = k.origin; sight = k.sight; spent = λ e. absurd (omega arith) },
        (refl, prefix_of_two v.told v.seen (whole log) k.told (sees_prefix base log id v.seen (k.sight live)), share_of entries first fits family start s r id v at live),
      )

  -- the same loads, of a seat that holds nothing
  abbrev pub Here : Type 0
  Here = Me (Option T) V

  pub learns_as : (slots id : ℕ) (me : Here) → me.1 ≡ [] → 0 < me.0.parts → Allows Rule slots id me 1 (λ n. n) (Learned entries first fits family (step slots 1 0 0 none) me)
  learns_as slots id me empty live = subst (λ (c : List (ℕ × Option T)). Allows Rule slots id (me.0, c) 1 (λ n. n) (Learned entries first fits family (step slots 1 0 0 none) (me.0, c))) (sym empty) (learns slots id me.0 live)

  pub settles_as : (slots id : ℕ) (me : Here) → me.1 ≡ [] → 0 < me.0.parts → Allows Rule slots id me 0 (λ n. n) (Settled entries first fits family (step slots 0 0 0 none) me)
  settles_as slots id me empty live = subst (λ (c : List (ℕ × Option T)). Allows Rule slots id (me.0, c) 0 (λ n. n) (Settled entries first fits family (step slots 0 0 0 none) (me.0, c))) (sym empty) (settles slots id me.0 live)
