-- Which guests have blocks, and that none has two.
use Rattle.std.proofs.Common.{◌≡◌, ◌⊎◌, inl, inr, ℕ, ◌+◌, Bool, true, false, cond, ◌==◌, List, [], ◌∷◌, ◌++◌, All, refl, sym, ap, ◌∙◌, subst, arith}
use Rattle.std.proofs.lemmas.Bool.Decides.{nat_tests}
use Rattle.std.proofs.lemmas.List.{map-append}
use Rattle.std.proofs.lemmas.List.Elements.{All-nil, All-cons, All-head, All-tail, All-append, All-weaker, All-contains, filter-append}
use mathlib.Core.List.{IsPrefix}
use Rattle.turnstile.specs.Log.{entries_of}
use Rattle.cache_types.specs.declared.entries.Entry.{Entry}
use Rattle.cache_types.specs.declared.outer.Done.{Done}
use Rattle.cache_types.specs.Entries.{newest_first, has_ended}
use Rattle.cache_types.specs.Legal.{IsLegal}
use Rattle.cache_hub.specs.Calls.{own_of, IsOpener}
use Rattle.cache_hub.specs.Hub.{AreApart}
use Rattle.guest_laws.proofs.Ended.{ended_whole}
use Rattle.player.specs.Plays.{Program, Answered}
use Rattle.edge_batch.specs.Blocks.{Joint, IsGuest, IsBlock, AreBlocks, Differ}

-- a guest that began through these passes, and ended
abbrev pub IsPast : Joint → ℕ → Type 0
IsPast j guest = IsOpener j.mine guest × (has_ended (newest_first j.seen) guest ≡ true)

-- no block's, or one that is past
abbrev pub IsKnown : Joint → ℕ → Type 0
IsKnown j guest = (guest ≡ 0) ⊎ IsPast j guest

known_of : (j : Joint) (trace : List Answered) (guest : ℕ) → ((guest ≡ 0) × (trace ≡ [])) ⊎ IsGuest j trace guest → IsKnown j guest
known_of j trace guest (inl none) = inl none.0
known_of j trace guest (inr g) = inr (g.opener, g.ended)

pub block_guest : (most limit : ℕ) (Began : Program → Type 0) (j : Joint) (index : ℕ) (done : Done) → IsBlock most limit Began j index done → IsKnown j done.guest
block_guest most limit Began j index done (inl none) = inl (ap (λ (d : Done). d.guest) none)
block_guest most limit Began j index done (inr b) = known_of j b.trace done.guest b.guest

pub blocks_guests : {R : Type 0} (most limit : ℕ) (Began : ℕ → R → Program → Type 0) (j : Joint) (index : ℕ) (requests : List R) (blocks : List Done) → AreBlocks most limit Began j index requests blocks → All (λ (d : Done). IsKnown j d.guest) blocks
blocks_guests most limit Began j index [] [] each = All-nil (λ (d : Done). IsKnown j d.guest)
blocks_guests most limit Began j index [] (done ∷ blocks) each = absurd each
blocks_guests most limit Began j index (request ∷ requests) [] each = absurd each
blocks_guests most limit Began j index (request ∷ requests) (done ∷ blocks) each =
    All-cons (λ (d : Done). IsKnown j d.guest) done blocks (block_guest most limit (Began index request) j index done each.0) (blocks_guests most limit Began j (index + 1) requests blocks each.1)

-- ---- guests that differ

-- a guest of a block and that of another are the same only where there is none
abbrev pub IsOther : Done → Done → Type 0
IsOther d e = d.guest ≡ e.guest → d.guest ≡ 0

abbrev pub AreOthers : List Done → List Done → Type 0
AreOthers ds es = All (λ (d : Done). All (IsOther d) es) ds

pub differ_both : (ds es : List Done) → Differ ds → Differ es → AreOthers ds es → Differ (ds ++ es)
differ_both [] es a b cross = b
differ_both (d ∷ ds) es a b cross =
    (All-append (IsOther d) ds es a.0 (All-head (λ (d : Done). All (IsOther d) es) d ds cross), differ_both ds es a.1 b (All-tail (λ (d : Done). All (IsOther d) es) d ds cross))

-- what holds of each two makes them others
pub others : (P Q : Done → Type 0) → ((d e : Done) → P d → Q e → IsOther d e) → (ds es : List Done) → All P ds → All Q es → AreOthers ds es
others P Q other ds es p q = All-weaker P (λ (d : Done). All (IsOther d) es) (λ d h. All-weaker Q (IsOther d) (λ e k. other d e h k) es q) ds p

-- two joints without a common number
pub apart_others : (a b : Joint) → AreApart a.mine b.mine → (d e : Done) → IsKnown a d.guest → IsKnown b e.guest → IsOther d e
apart_others a b apart d e (inl none) known = λ same. none
apart_others a b apart d e (inr past) (inl none) = λ same. same ∙ none
apart_others a b apart d e (inr past) (inr other) = λ same.
    let moved : IsOpener b.mine d.guest = subst (IsOpener b.mine) (sym same) other.0 in
    absurd (apart d.guest past.0.0 moved.0 past.0.1 moved.1)

-- ---- a guest that ended makes no more entries

none_own : (g : ℕ) (gained : List (ℕ × Entry)) → own_of g (entries_of gained) ≡ [] → All (λ (x : ℕ × Entry). x.1.guest ≡ g → ⊥) gained
none_own g [] none = All-nil (λ (x : ℕ × Entry). x.1.guest ≡ g → ⊥)
none_own g (x ∷ gained) none = by (x.1.guest == g) refl none (λ rest. none_own g gained rest)
  where
    by : (b : Bool) → (x.1.guest == g) ≡ b → cond b (x.1 ∷ own_of g (entries_of gained)) (own_of g (entries_of gained)) ≡ [] → (own_of g (entries_of gained) ≡ [] → All (λ (y : ℕ × Entry). y.1.guest ≡ g → ⊥) gained) → All (λ (y : ℕ × Entry). y.1.guest ≡ g → ⊥) (x ∷ gained)
    by true is none rest = cc (none)
    by false is none rest =
        let differs : x.1.guest ≡ g → ⊥ = grind (arith, nat_tests) in
        All-cons (λ (y : ℕ × Entry). y.1.guest ≡ g → ⊥) x gained differs (rest none)

append_none : (xs ys : List Entry) → xs ++ ys ≡ xs → ys ≡ []
append_none [] ys e = e
append_none (x ∷ xs) ys e = append_none xs ys (cc (e))

own_both : (g : ℕ) (xs ys : List (ℕ × Entry)) → own_of g (entries_of (xs ++ ys)) ≡ own_of g (entries_of xs) ++ own_of g (entries_of ys)
own_both g xs ys =
    ap (own_of g) (map-append (λ (x : ℕ × Entry). x.1) xs ys) ∙ filter-append (λ (e : Entry). e.guest == g) (entries_of xs) (entries_of ys)

-- a guest that ended doesn't begin again
pub not_again : (seen history : List Entry) (mine gained : List (ℕ × Entry)) (g : ℕ) → IsLegal history → IsPrefix seen history → has_ended (newest_first seen) g ≡ true → own_of g (entries_of mine) ≡ own_of g seen → own_of g (entries_of (mine ++ gained)) ≡ own_of g history
    → IsOpener gained g → ⊥
not_again seen history mine gained g legal longer ended before after opener =
    let same : own_of g (entries_of mine) ++ own_of g (entries_of gained) ≡ own_of g (entries_of mine) =
    sym (own_both g mine gained) ∙ (after ∙ (ended_whole seen history g legal longer ended ∙ sym before)) in
    let none = append_none (own_of g (entries_of mine)) (own_of g (entries_of gained)) same in
    All-contains (λ (x : ℕ × Entry). x.1.guest ≡ g → ⊥) gained (g, opener.0) (none_own g gained none) opener.1 opener.2
