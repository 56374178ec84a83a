-- A turn: it is claimed, an entry is counted, and the turn is given back.
use Rattle.std.proofs.Common.{◌≡◌, ◌≢◌, ℕ, ◌+◌, ◌%◌, ◌^◌, ◌<◌, ◌≤◌, eqb, List, [], ◌∷◌, ◌++◌, length, get_or, set, sum_by, Contains, refl, sym, ap, ◌∙◌, subst, ⊎_elim, arith, Option, Some, None}
use mathlib.Core.Option as option
use mathlib.Core.Option.{some, none, some-injective, some-ne-none}
use mathlib.Core.List.{IsPrefix}
use lib.ListN.{get_elem?}
use prog.Atomic.{either}
use Rattle.std.proofs.Math.Nat.{mod-eq_of_lt}
use Rattle.std.proofs.lemmas.List.{length-append, length-map, length-set}
use Rattle.atomic_table.specs.Table.{State, Me, Act, step, keeps, takes, gives, stepped, Allows}
use Rattle.atomic_table.proofs.Lists.{at_snoc, at_longer, at_last}
use Rattle.turnstile.specs.declared.view.View.{View}
use Rattle.turnstile.specs.Log.{IsShare, entries_of, owned, Families}
use Rattle.turnstile.specs.Standing.{family_number, MayJoin}
use Rattle.turnstile.specs.Rule.{turn_of, inside_of, Sees, Knows, Stands}
use Rattle.turnstile.specs.Plays.{Won, Claimed, Published, Left, LeftIdle}
use Rattle.turnstile.proofs.Logs.{owned_push-own, owned_contains}
use Rattle.turnstile.proofs.Lists.{at_bound, at_snoc_place, one_only, same_some, seats_set, sum_set, snoc_list, prefix_longer, entries_push}
use Rattle.turnstile.proofs.Seats.{inside_own, inside_other, inside_is, sees_all, sees_prefix, share, knows_turned, knows_grown}

module _ {T E : Type 0} (entries : T → List E) (first : T → ℕ) (fits : T → List E → T → Type 0) (family : E → ℕ) (start : T) where
  abbrev pub V : Type 0
  V = View T E

  abbrev pub St : Type 0
  St = State (Option T) V

  abbrev pub base : List E
  base = entries start

  abbrev pub next : ℕ
  next = first start + length (entries start)

  abbrev pub Rule : St → Type 0
  Rule = Stands start base next (fits start) family

  abbrev pub whole : List (ℕ × E) → List E
  whole log = base ++ entries_of log

  -- a step whose words are spelled out
  pub spelled : (s : St) (r : Rule s) (P : List ℕ → Type 0) → P (turn_of r.holder ∷ length r.log ∷ []) → P s.words
  spelled s r P p = subst P (sym r.words) p

  parts_stay : (vs : List V) (me : ℕ) (v w : V) → get_elem? vs me ≡ some v → w.parts ≡ v.parts → sum_by (λ (x : V). x.parts) (set vs me w) ≡ sum_by (λ (x : V). x.parts) vs
  parts_stay vs me v w at same = let e = sum_set (λ (x : V). x.parts) vs me v w at in omega arith

  -- a step that changes no word but the turn, and one view
  turned : (s : St) (r : Rule s) (p : option.Option ℕ) (homes : List (option.Option (Option T))) (id : ℕ) (v w : V) → get_elem? s.views id ≡ some v → w.parts ≡ v.parts
      → (p ≡ none → (x : T) × (homes ≡ some (Some x) ∷ []) × fits start (whole r.log) x) → ((j : ℕ) → p ≡ some j → j < length s.views)
      → ((j : ℕ) (d : V) → j ≢ id → get_elem? s.views j ≡ some d → Knows start base next r.log p j d) → Knows start base next r.log p id w
      → Rule record { words = turn_of p ∷ length r.log ∷ []; homes = homes; views = set s.views id w }
  turned s r p homes id v w at same home held others mine = record {
    log = r.log;
    holder = p;
    words = refl;
    home = home;
    held = λ j e. subst (λ (n : ℕ). j < n) (sym (length-set s.views id w)) (held j e);
    makers = λ i x e. subst (λ (n : ℕ). x.0 < n) (sym (length-set s.views id w)) (r.makers i x e);
    older = r.older;
    families = r.families;
    seats = seats_set (λ j d. Knows start base next r.log p j d) s.views id w mine others;
    parts = parts_stay s.views id v w at same ∙ r.parts;
  }

  pub share_of : (s : St) (r : Rule s) (id : ℕ) (v : V) → get_elem? s.views id ≡ some v → 0 < v.parts → (first_value : T) → v.start ≡ Some first_value → IsShare (entries first_value) (first first_value + length (entries first_value)) family v.seen v.mine
  share_of s r id v at live other from =
      let k = r.seats id v at in
      let same : start ≡ other = same_some (sym (k.origin live) ∙ from) in
      subst (λ (t : T). IsShare (entries t) (first t + length (entries t)) family v.seen v.mine) same (share family base next r.log id v.seen v.mine r.older r.families (k.sight live) k.made)

  -- claim
  claim_free : (s : St) (r : Rule s) (id : ℕ) (v : V) → get_elem? s.views id ≡ some v → v.inside ≡ None → 0 < v.parts → r.holder ≡ none
      → (w : V) × (a : Act (Option T)) × Rattle.atomic_table.specs.Table.Valid s.homes [] a × Rule (stepped record { words = 0 ∷ length r.log ∷ []; homes = s.homes; views = s.views } 0 1 id [] w a)
      × Won entries first fits family (v, []) (w, Rattle.atomic_table.specs.Table.carried_after [] a)
  claim_free s r id v at outside live free =
      let here = r.home free in
      let k = r.seats id v at in
      let log = r.log in
      let w : V = record v { inside = Some (whole log) } in
      let P : List (option.Option (Option T)) → Type 0 = λ hs. (w : V) × (a : Act (Option T)) × Rattle.atomic_table.specs.Table.Valid hs [] a × Rule (stepped record { words = 0 ∷ length r.log ∷ []; homes = hs; views = s.views } 0 1 id [] w a)
      × Won entries first fits family (v, []) (w, Rattle.atomic_table.specs.Table.carried_after [] a) in
      subst P (sym here.1) (
        w,
        takes 0 (Some here.0),
        refl,
        turned s r (some id) (none ∷ []) id v w at refl (λ e. absurd (some-ne-none id e)) (λ j e. subst (λ (i : ℕ). i < length s.views) (some-injective id j e) (at_bound s.views id v at))
            (λ j d other there. knows_turned start base next log r.holder (some id) j d (ap (λ (o : option.Option ℕ). inside_of o j (whole log)) free) (inside_other id j (whole log) other) (r.seats j d there))
            record {
              made = k.made;
              place = sym (inside_own id (whole log));
              told = k.told;
              origin = k.origin;
              sight = k.sight;
              spent = λ e. absurd (omega arith);
            },
        (
          whole log,
          here.0,
          refl,
          sees_prefix base log id v.seen (k.sight live),
          λ other from. let same : start ≡ other = same_some (sym (k.origin live) ∙ from) in
              subst (λ (t : T). fits t (whole log) here.0 × IsShare (entries t) (first t + length (entries t)) family (whole log) v.mine) same (here.2, share family base next log id (whole log) v.mine r.older r.families (sees_all base log id) k.made),
        ),
      )

  pub quiet : (s : St) (r : Rule s) (id : ℕ) (v w : V) → get_elem? s.views id ≡ some v → w.parts ≡ v.parts → Knows start base next r.log r.holder id w → Rule record { words = turn_of r.holder ∷ length r.log ∷ []; homes = s.homes; views = set s.views id w }
  quiet s r id v w at same mine = turned s r r.holder s.homes id v w at same r.home r.held (λ j d _ there. r.seats j d there) mine

  claim_word : option.Option ℕ → ℕ
  claim_word o = either (eqb (turn_of o) 0) 1 (turn_of o)

  claims_at : (s : St) (r : Rule s) (slots id : ℕ) (v : V) → get_elem? s.views id ≡ some v → v.inside ≡ None → 0 < v.parts → (o : option.Option ℕ) → r.holder ≡ o
      → (w : V) × (a : Act (Option T)) × Rattle.atomic_table.specs.Table.Valid s.homes [] a × Rule (stepped record { words = turn_of o ∷ length r.log ∷ []; homes = s.homes; views = s.views } 0 (either (eqb (turn_of o) 0) 1 (turn_of o)) id [] w a)
      × Claimed entries first fits family (step slots 0 0 1 none) (v, []) (turn_of o) (w, Rattle.atomic_table.specs.Table.carried_after [] a)
  claims_at s r slots id v at outside live none free =
      let won = claim_free s r id v at outside live free in
      (won.0, won.1, won.2, won.3, ((λ _. won.4), (λ held. absurd (held refl))))
  claims_at s r slots id v at outside live (some i) taken =
      let k = r.seats id v at in
      let w : V = record v { lost = v.lost + 1 } in (
        w,
        keeps,
        tt,
        subst (λ (o : option.Option ℕ). Rule record { words = turn_of o ∷ length r.log ∷ []; homes = s.homes; views = set s.views id w }) taken
            (quiet s r id v w at refl record { made = k.made; place = k.place; told = k.told; origin = k.origin; sight = k.sight; spent = k.spent }),
        ((λ z. absurd (omega arith)), (λ _. (refl, share_of s r id v at live))),
      )

  pub claims : (slots id : ℕ) (v : V) → v.inside ≡ None → 0 < v.parts → Allows Rule slots id (v, []) 0 (λ n. either (eqb n 0) 1 n) (Claimed entries first fits family (step slots 0 0 1 none) (v, []))
  claims slots id v outside live s r fit at small = spelled s r
      (λ (ws : List ℕ). (w : V) × (a : Act (Option T)) × Rattle.atomic_table.specs.Table.Valid s.homes [] a × Rule (stepped record { words = ws; homes = s.homes; views = s.views } 0 (either (eqb (get_or ws 0 0) 0) 1 (get_or ws 0 0)) id [] w a)
      × Claimed entries first fits family (step slots 0 0 1 none) (v, []) (get_or ws 0 0) (w, Rattle.atomic_table.specs.Table.carried_after [] a))
      (claims_at s r slots id v at outside live r.holder refl)

  -- publish
  families_push : (id : ℕ) (log : List (ℕ × E)) (mine : List (ℕ × E)) (e : E) (joins : Option ℕ) → Families family next log → mine ≡ owned id next log → MayJoin family joins mine → family e ≡ family_number joins (next + length log)
      → Families family next (log ++ (id, e) ∷ [])
  families_push id log mine e joins families made may named i x at = ⊎_elim
      (λ (t : get_elem? log i ≡ some x). let found = families i x t in (found.0, found.1, found.2, (found.3.0, at_longer log ((id, e) ∷ []) found.0 (x.0, found.3.0) found.3.1, found.3.2)))
      (λ (t : (i ≡ length log) × ((id, e) ≡ x)). let place = t.0 in
      subst (λ (y : ℕ × E). (m : ℕ) × (next + m ≡ family y.1) × (m ≤ i) × ((o : E) × (get_elem? (log ++ (id, e) ∷ []) m ≡ some (y.0, o)) × (family o ≡ family y.1))) t.1 (new joins may named place))
      (at_snoc_place log (id, e) x i at)
    where
      new : (joins : Option ℕ) → MayJoin family joins mine → family e ≡ family_number joins (next + length log) → i ≡ length log
          → (m : ℕ) × (next + m ≡ family e) × (m ≤ i) × ((o : E) × (get_elem? (log ++ (id, e) ∷ []) m ≡ some (id, o)) × (family o ≡ family e))
      new None may named place = (length log, sym named, omega arith, (e, at_last log (id, e) (length log) refl, refl))
      new (Some f) may named place =
          let found = owned_contains id next log f may.0 (subst (λ (l : List (ℕ × E)). Contains l (f, may.0)) made may.1) in
          let bound = at_bound log found.0 (id, may.0) found.2 in
          (found.0, found.1 ∙ sym named, omega arith, (may.0, at_longer log ((id, e) ∷ []) found.0 (id, may.0) found.2, may.2 ∙ sym named))

  pub number_is : (log : List (ℕ × E)) → first start + length (whole log) ≡ next + length log
  number_is log = omega (arith, length-append base (entries_of log), length-map log (λ (x : ℕ × E). x.1))

  abbrev published : V → List E → E → V
  published v list e = record v { seen = list ++ e ∷ []; mine = v.mine ++ (first start + length list, e) ∷ []; inside = Some (list ++ e ∷ []) }

  grown : (s : St) (r : Rule s) (id : ℕ) (v : V) (e : E) (joins : Option ℕ) → get_elem? s.views id ≡ some v → 0 < v.parts → r.holder ≡ some id → MayJoin family joins v.mine → family e ≡ family_number joins (first start + length (whole r.log))
      → Rule record { words = turn_of (some id) ∷ length (r.log ++ (id, e) ∷ []) ∷ []; homes = s.homes; views = set s.views id (published v (whole r.log) e) }
  grown s r id v e joins at live has may named =
      let log = r.log in
      let log' : List (ℕ × E) = log ++ (id, e) ∷ [] in
      let w = published v (whole log) e in
      let k = r.seats id v at in
      let list : whole log' ≡ whole log ++ e ∷ [] = entries_push base log (id, e) in
      record {
        log = log';
        holder = some id;
        words = refl;
        home = λ e. absurd (some-ne-none id e);
        held = λ j e. subst (λ (n : ℕ). j < n) (sym (length-set s.views id w)) (r.held j (has ∙ e));
        makers = λ i x there. subst (λ (n : ℕ). x.0 < n) (sym (length-set s.views id w)) (⊎_elim (λ (t : get_elem? log i ≡ some x). r.makers i x t)
            (λ (t : (id, e) ≡ x). subst (λ (y : ℕ × E). y.0 < length s.views) t (at_bound s.views id v at)) (at_snoc log (id, e) x i there));
        older = r.older;
        families = families_push id log v.mine e joins r.families k.made may (named ∙ ap (family_number joins) (number_is log));
        seats = seats_set (λ j d. Knows start base next log' (some id) j d) s.views id w
            record {
              made = ap (λ (l : List (ℕ × E)). l ++ (first start + length (whole log), e) ∷ []) k.made ∙ (ap (λ (n : ℕ). owned id next log ++ (n, e) ∷ []) (number_is log) ∙ sym (owned_push-own id next log e));
              place = ap Some (sym list) ∙ sym (inside_own id (whole log'));
              told = subst (λ (l : List E). IsPrefix v.told l) (sym list) (prefix_longer v.told (whole log) (e ∷ []) k.told);
              origin = k.origin;
              sight = λ _. subst (Sees base log' id) list (sees_all base log' id);
              spent = λ e. absurd (omega arith);
            }
            (λ j d other there. knows_grown start base next log id j e d other (subst (λ (o : option.Option ℕ). Knows start base next log o j d) has (r.seats j d there)));
        parts = parts_stay s.views id v w at refl ∙ r.parts;
      }

  abbrev load : List (ℕ × Option T) → Option T
  load [] = None
  load (z ∷ zs) = z.1

  same_load : (x y : T) → ◌≡◌ {A = List (ℕ × Option T)} ((0, Some x) ∷ []) ((0, Some y) ∷ []) → x ≡ y
  same_load x y e = same_some (ap load e)

  pub publishes : (slots id : ℕ) (v : V) (list : List E) (e : E) (x : T) (joins : Option ℕ) → 0 < v.parts → v.inside ≡ Some list → entries x ≡ list ++ e ∷ [] → length (entries x) < 2 ^ 64 → MayJoin family joins v.mine
      → family e ≡ family_number joins (first start + length list)
      → Allows Rule slots id (v, (0, Some x) ∷ []) 1 (λ n. (n + 1) % 2 ^ 64) (Published entries first fits family (step slots 1 1 0 none) (v, (0, Some x) ∷ []))
  publishes slots id v list e x joins live inside stands room may named s r fit at small =
      let k = r.seats id v at in
      let has = inside_is r.holder id (whole r.log) list (sym k.place ∙ inside) in
      let c : List (ℕ × Option T) = (0, Some x) ∷ [] in
      let w = published v list e in
      let log' : List (ℕ × E) = r.log ++ (id, e) ∷ [] in
      let long : length (entries x) ≡ length list + 1 = ap length stands ∙ length-append list (e ∷ []) in
      let whole_long : length (whole r.log) ≡ length base + length r.log = length-append base (entries_of r.log) ∙ ap (λ (n : ℕ). length base + n) (length-map r.log (λ (y : ℕ × E). y.1)) in
      let same_long : length (whole r.log) ≡ length list = ap length has.1 in
      let count : (length r.log + 1) % 2 ^ 64 ≡ length log' = let small : length r.log + 1 < 2 ^ 64 = omega arith in mod-eq_of_lt small ∙ sym (length-append r.log ((id, e) ∷ [])) in
      let kept : Rule record { words = turn_of r.holder ∷ ((length r.log + 1) % 2 ^ 64) ∷ []; homes = s.homes; views = set s.views id w } =
      subst (λ (ws : List ℕ). Rule record { words = ws; homes = s.homes; views = set s.views id w }) (let back = sym has.0 in let back_count = sym count in λ i. turn_of (back i) ∷ back_count i ∷ [])
      (subst (λ (l : List E). Rule record { words = turn_of (some id) ∷ length log' ∷ []; homes = s.homes; views = set s.views id (published v l e) }) has.1
      (grown s r id v e joins at live has.0 may (named ∙ ap (λ (l : List E). family_number joins (first start + length l)) (sym has.1)))) in
      spelled s r
      (λ (ws : List ℕ). (w : V) × (a : Act (Option T)) × Rattle.atomic_table.specs.Table.Valid s.homes c a × Rule (stepped record { words = ws; homes = s.homes; views = s.views } 1 ((get_or ws 1 0 + 1) % 2 ^ 64) id c w a)
      × Published entries first fits family (step slots 1 1 0 none) (v, c) (get_or ws 1 0) (w, Rattle.atomic_table.specs.Table.carried_after c a)) (
        w,
        keeps,
        tt,
        kept,
        λ other y list' e' from inside' loaded stands'.
            let ps : start ≡ other = same_some (sym (k.origin live) ∙ from) in
            let pl : list ≡ list' = same_some (sym inside ∙ inside') in
            let px : x ≡ y = same_load x y loaded in
            let pe = (snoc_list list list' e e' (sym stands ∙ (ap entries px ∙ stands'))).1 in
            λ i. (record v { seen = pl i ++ pe i ∷ []; mine = v.mine ++ (first (ps i) + length (pl i), pe i) ∷ []; inside = Some (pl i ++ pe i ∷ []) }, c),
      )

  -- the turn is given back, with the value
  leave_at : (s : St) (r : Rule s) (id : ℕ) (v w : V) (list : List E) (x : T) → get_elem? s.views id ≡ some v → length s.homes ≡ 1 → r.holder ≡ some id → whole r.log ≡ list → fits start list x → w.parts ≡ v.parts
      → Knows start base next r.log none id w → Rule (stepped record { words = turn_of r.holder ∷ length r.log ∷ []; homes = s.homes; views = s.views } 0 0 id ((0, Some x) ∷ []) w gives)
  leave_at s r id v w list x at one has same right parts mine =
      turned s r none (set s.homes 0 (some (Some x))) id v w at parts (λ _. (x, one_only s.homes (some (Some x)) one, subst (λ (l : List E). fits start l x) (sym same) right)) (λ j e. absurd (some-ne-none j (sym e)))
      (λ j d other there. knows_turned start base next r.log r.holder none j d (ap (λ (o : option.Option ℕ). inside_of o j (whole r.log)) has ∙ inside_other id j (whole r.log) other) refl (r.seats j d there))
      mine

  pub leaves : (slots id : ℕ) (v : V) (list : List E) (x : T) → slots ≡ 1 → 0 < v.parts → v.inside ≡ Some list → fits start list x
      → Allows Rule slots id (v, (0, Some x) ∷ []) 0 (λ _. 0) (Left entries first fits family (step slots 0 0 0 none) (v, (0, Some x) ∷ []))
  leaves slots id v list x one live inside right s r fit at small =
      let k = r.seats id v at in
      let has = inside_is r.holder id (whole r.log) list (sym k.place ∙ inside) in
      let c : List (ℕ × Option T) = (0, Some x) ∷ [] in
      let w : V = record v { inside = None } in
      spelled s r
      (λ (ws : List ℕ). (w : V) × (a : Act (Option T)) × Rattle.atomic_table.specs.Table.Valid s.homes c a × Rule (stepped record { words = ws; homes = s.homes; views = s.views } 0 0 id c w a)
      × Left entries first fits family (step slots 0 0 0 none) (v, c) (get_or ws 0 0) (w, Rattle.atomic_table.specs.Table.carried_after c a)) (
        w,
        gives,
        tt,
        leave_at s r id v w list x at (fit ∙ one) has.0 has.1 right refl record { made = k.made; place = refl; told = k.told; origin = k.origin; sight = k.sight; spent = λ e. absurd (omega arith) },
        (refl, share_of s r id v at live),
      )

  pub leaves_idle : (slots id : ℕ) (v : V) (list : List E) (x : T) → slots ≡ 1 → 0 < v.parts → v.inside ≡ Some list → fits start list x
      → Allows Rule slots id (v, (0, Some x) ∷ []) 0 (λ _. 0) (LeftIdle entries first fits family (step slots 0 0 0 none) (v, (0, Some x) ∷ []))
  leaves_idle slots id v list x one live inside right s r fit at small =
      let k = r.seats id v at in
      let has = inside_is r.holder id (whole r.log) list (sym k.place ∙ inside) in
      let c : List (ℕ × Option T) = (0, Some x) ∷ [] in
      let w : V = record v { seen = list; idle = v.idle + 1; inside = None } in
      let sees : Sees base r.log id list = subst (Sees base r.log id) has.1 (sees_all base r.log id) in
      spelled s r
      (λ (ws : List ℕ). (w : V) × (a : Act (Option T)) × Rattle.atomic_table.specs.Table.Valid s.homes c a × Rule (stepped record { words = ws; homes = s.homes; views = s.views } 0 0 id c w a)
      × LeftIdle entries first fits family (step slots 0 0 0 none) (v, c) (get_or ws 0 0) (w, Rattle.atomic_table.specs.Table.carried_after c a)) (
        w,
        gives,
        tt,
        leave_at s r id v w list x at (fit ∙ one) has.0 has.1 right refl record { made = k.made; place = refl; told = k.told; origin = k.origin; sight = λ _. sees; spent = λ e. absurd (omega arith) },
        λ list' inside'.
            let pl : list ≡ list' = same_some (sym inside ∙ inside') in (
              (λ i. (record v { seen = pl i; idle = v.idle + 1; inside = None }, [])),
              λ other from. let same : start ≡ other = same_some (sym (k.origin live) ∙ from) in
                  subst (λ (t : T). IsShare (entries t) (first t + length (entries t)) family list v.mine) same (share family base next r.log id list v.mine r.older r.families sees k.made),
            ),
      )

  -- the same steps, of a seat whose slots are known
  abbrev pub Here : Type 0
  Here = Me (Option T) V

  pub claims_as : (slots id : ℕ) (me : Here) → me.1 ≡ [] → me.0.inside ≡ None → 0 < me.0.parts → Allows Rule slots id me 0 (λ n. either (eqb n 0) 1 n) (Claimed entries first fits family (step slots 0 0 1 none) me)
  claims_as slots id me empty outside live =
      subst (λ (c : List (ℕ × Option T)). Allows Rule slots id (me.0, c) 0 (λ n. either (eqb n 0) 1 n) (Claimed entries first fits family (step slots 0 0 1 none) (me.0, c))) (sym empty) (claims slots id me.0 outside live)

  pub publishes_as : (slots id : ℕ) (me : Here) (list : List E) (e : E) (x : T) (joins : Option ℕ) → me.1 ≡ (0, Some x) ∷ [] → 0 < me.0.parts → me.0.inside ≡ Some list → entries x ≡ list ++ e ∷ [] → length (entries x) < 2 ^ 64
      → MayJoin family joins me.0.mine → family e ≡ family_number joins (first start + length list)
      → Allows Rule slots id me 1 (λ n. (n + 1) % 2 ^ 64) (Published entries first fits family (step slots 1 1 0 none) me)
  publishes_as slots id me list e x joins loaded live inside stands room may named =
      subst (λ (c : List (ℕ × Option T)). Allows Rule slots id (me.0, c) 1 (λ n. (n + 1) % 2 ^ 64) (Published entries first fits family (step slots 1 1 0 none) (me.0, c))) (sym loaded)
      (publishes slots id me.0 list e x joins live inside stands room may named)

  pub leaves_as : (slots id : ℕ) (me : Here) (list : List E) (x : T) → me.1 ≡ (0, Some x) ∷ [] → slots ≡ 1 → 0 < me.0.parts → me.0.inside ≡ Some list → fits start list x
      → Allows Rule slots id me 0 (λ _. 0) (Left entries first fits family (step slots 0 0 0 none) me)
  leaves_as slots id me list x loaded one live inside right =
      subst (λ (c : List (ℕ × Option T)). Allows Rule slots id (me.0, c) 0 (λ _. 0) (Left entries first fits family (step slots 0 0 0 none) (me.0, c))) (sym loaded) (leaves slots id me.0 list x one live inside right)

  pub leaves_idle_as : (slots id : ℕ) (me : Here) (list : List E) (x : T) → me.1 ≡ (0, Some x) ∷ [] → slots ≡ 1 → 0 < me.0.parts → me.0.inside ≡ Some list → fits start list x
      → Allows Rule slots id me 0 (λ _. 0) (LeftIdle entries first fits family (step slots 0 0 0 none) me)
  leaves_idle_as slots id me list x loaded one live inside right =
      subst (λ (c : List (ℕ × Option T)). Allows Rule slots id (me.0, c) 0 (λ _. 0) (LeftIdle entries first fits family (step slots 0 0 0 none) (me.0, c))) (sym loaded) (leaves_idle slots id me.0 list x one live inside right)
