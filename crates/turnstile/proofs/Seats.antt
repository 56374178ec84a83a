-- What the seats know, as the turn goes round.
use Rattle.std.proofs.Common.{◌≡◌, ◌≢◌, ℕ, zero, suc, ◌<◌, cond, Bool, List, [], ◌∷◌, ◌++◌, length, take, All, refl, sym, ap, ◌∙◌, subst, ⊎_elim, arith, eq-eqb, ne_eqb, Some, None}
use mathlib.Core.Option as option
use mathlib.Core.Option.{some, none, some-injective, some-ne-none}
use mathlib.Core.Logic.{dite}
use native.Mathlib.Decide.{ℕ_discrete}
use mathlib.Core.List.{IsPrefix}
use lib.ListN.{get_elem?}
use Rattle.std.proofs.lemmas.List.{take-append-le, length-append}
use Rattle.std.proofs.Math.Seq.{take-length}
use Rattle.atomic_table.proofs.Lists.{at_snoc}
use Rattle.turnstile.specs.declared.view.View.{View}
use Rattle.turnstile.specs.Log.{IsShare, entries_of, owned, Families}
use Rattle.turnstile.specs.Rule.{inside_of, Sees, Knows}
use Rattle.turnstile.proofs.Logs.{owned_push-other, owned_take}
use Rattle.turnstile.proofs.Lists.{prefix_longer, entries_take, entries_push, at_bound}

module _ {E : Type 0} where
  pub inside_own : (j : ℕ) (l : List E) → inside_of (some j) j l ≡ Some l
  inside_own j l = ap (λ (b : Bool). cond b (Some l) None) (eq-eqb j j refl)

  pub inside_other : (i j : ℕ) (l : List E) → j ≢ i → inside_of (some i) j l ≡ None
  inside_other i j l other = ap (λ (b : Bool). cond b (Some l) None) (ne_eqb i j (λ e. other (sym e)))

  -- a seat that is inside has the turn, and knows the published list
  pub inside_is : (o : option.Option ℕ) (j : ℕ) (l m : List E) → inside_of o j l ≡ Some m → (o ≡ some j) × (l ≡ m)
  inside_is none j l m e = absurd (cc (e))
  inside_is (some i) j l m e = dite (ℕ_discrete i j)
      (λ same. (ap some same, let h : Some l ≡ Some m = sym (ap (λ (b : Bool). cond b (Some l) None) (eq-eqb i j same)) ∙ e in cc))
      (λ other. absurd (let h : None ≡ Some m = sym (ap (λ (b : Bool). cond b (Some l) None) (ne_eqb i j other)) ∙ e in cc (h)))

  pub sees_all : (base : List E) (log : List (ℕ × E)) (j : ℕ) → Sees base log j (base ++ entries_of log)
  sees_all base log j = record {
    count = length log;
    within = omega arith;
    list = ap (λ (l : List (ℕ × E)). base ++ entries_of l) (sym (take-length log));
    others = λ i x le at. let b = at_bound log i x at in absurd (omega arith);
  }

  pub sees_prefix : (base : List E) (log : List (ℕ × E)) (j : ℕ) (seen : List E) → Sees base log j seen → IsPrefix seen (base ++ entries_of log)
  sees_prefix base log j seen s = subst (λ (l : List E). IsPrefix l (base ++ entries_of log)) (sym s.list) (entries_take base s.count log)

  families_take : (family : E → ℕ) (n c : ℕ) (log : List (ℕ × E)) → Families family n log → Families family n (take c log)
  families_take family n c log families i x at =
      let cut = taken log c i x at in
      let found = families i x cut.1 in
      (found.0, found.1, found.2, (found.3.0, kept log c found.0 (x.0, found.3.0) (let a = found.2 in let b = cut.0 in omega arith) found.3.1, found.3.2))
    where
      taken : (l : List (ℕ × E)) (c i : ℕ) (x : ℕ × E) → get_elem? (take c l) i ≡ some x → (i < c) × (get_elem? l i ≡ some x)
      taken [] zero i x e = absurd (some-ne-none x (sym e))
      taken [] (suc c) i x e = absurd (some-ne-none x (sym e))
      taken (y ∷ ys) zero i x e = absurd (some-ne-none x (sym e))
      taken (y ∷ ys) (suc c) zero x e = (omega arith, e)
      taken (y ∷ ys) (suc c) (suc i) x e = let r = taken ys c i x e in let a = r.0 in (omega arith, r.1)

      kept : (l : List (ℕ × E)) (c i : ℕ) (x : ℕ × E) → i < c → get_elem? l i ≡ some x → get_elem? (take c l) i ≡ some x
      kept [] c i x h e = absurd (some-ne-none x (sym e))
      kept (y ∷ ys) zero i x h e = absurd (omega arith)
      kept (y ∷ ys) (suc c) zero x h e = e
      kept (y ∷ ys) (suc c) (suc i) x h e = kept ys c i x (omega arith) e

  pub share : (family : E → ℕ) (base : List E) (n : ℕ) (log : List (ℕ × E)) (j : ℕ) (seen : List E) (mine : List (ℕ × E)) → All (λ e. family e < n) base → Families family n log → Sees base log j seen → mine ≡ owned j n log
      → IsShare base n family seen mine
  share family base n log j seen mine older families sees made = record {
    log = take sees.count log;
    seat = j;
    list = sees.list;
    made = made ∙ owned_take j n sees.count log sees.others;
    older = older;
    families = families_take family n sees.count log families;
  }

  -- another seat sees no less where the log grows
  pub sees_grown : (base : List E) (log : List (ℕ × E)) (j : ℕ) (seen : List E) (x : ℕ × E) → x.0 ≢ j → Sees base log j seen → Sees base (log ++ x ∷ []) j seen
  sees_grown base log j seen x other s = let within = s.within in record {
    count = s.count;
    within = omega (arith, length-append log (x ∷ []));
    list = s.list ∙ ap (λ (l : List (ℕ × E)). base ++ entries_of l) (sym (take-append-le s.count log (x ∷ []) s.within));
    others = λ i y le at. ⊎_elim (λ (t : get_elem? log i ≡ some y). s.others i y le t) (λ (t : x ≡ y). λ own. other (ap (λ (z : ℕ × E). z.0) t ∙ own)) (at_snoc log x y i at);
  }

module _ {T E : Type 0} (start : T) (base : List E) (n : ℕ) where
  abbrev V : Type 0
  V = View T E

  -- the turn is taken by another seat, or given back by one
  pub knows_turned : (log : List (ℕ × E)) (o p : option.Option ℕ) (j : ℕ) (v : V) → inside_of o j (base ++ entries_of log) ≡ None → inside_of p j (base ++ entries_of log) ≡ None
      → Knows start base n log o j v → Knows start base n log p j v
  knows_turned log o p j v before after k = record {
    made = k.made;
    place = k.place ∙ (before ∙ sym after);
    told = k.told;
    origin = k.origin;
    sight = k.sight;
    spent = k.spent;
  }

  -- another seat adds an entry
  pub knows_grown : (log : List (ℕ × E)) (i j : ℕ) (e : E) (v : V) → j ≢ i → Knows start base n log (some i) j v → Knows start base n (log ++ (i, e) ∷ []) (some i) j v
  knows_grown log i j e v other k = record {
    made = k.made ∙ sym (owned_push-other j n log (i, e) (λ same. other (sym same)));
    place = k.place ∙ (inside_other i j (base ++ entries_of log) other ∙ sym (inside_other i j (base ++ entries_of (log ++ (i, e) ∷ [])) other));
    told = subst (λ (l : List E). IsPrefix v.told l) (sym (entries_push base log (i, e))) (prefix_longer v.told (base ++ entries_of log) (e ∷ []) k.told);
    origin = k.origin;
    sight = λ live. sees_grown base log j v.seen (i, e) (λ same. other (sym same)) (k.sight live);
    spent = k.spent;
  }
