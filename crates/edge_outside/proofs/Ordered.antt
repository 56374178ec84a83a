-- A loop that asks for one thing after another: what it keeps, and how it ends. They hold of any kind of call.
use Rattle.std.proofs.Common.{◌≡◌, ℕ, ◌+◌, ◌<◌, List, [], ◌∷◌, ◌++◌, map, take, drop, length, Result, Ok, Err, refl, sym, ap, subst, ◌∙◌, append_assoc, get_or}
use Rattle.std.proofs.lemmas.List.{take_more, take-map, map-append, take-append-drop, append-nil}
use Rattle.edge_outside.specs.Made.{Made, made_none, made_one, made_then}
use Rattle.edge_outside.specs.InOrder.{AreAnswered, InOrder}

-- these were asked by the calls from the first object to the one now, and gave these values
pub record Keeps {S A V F : Type 0} (R : S → A → Result V F → S → Type 0) (first now : S) (asked : List A) (values : List V) : Type 0 where
  pub calls : List (A × Result V F)
  pub are_made : Made R first calls now
  pub answered : AreAnswered asked calls values

-- the calls of a loop that has ended so
pub record Ended {S A V F : Type 0} (R : S → A → Result V F → S → Type 0) (Between : F → Type 0) (first after : S) (asked : List A) (result : Result (List V) F) : Type 0 where
  pub calls : List (A × Result V F)
  pub are_made : Made R first calls after
  pub in_order : InOrder Between asked calls result

-- one more that was answered
answered_more : {A V F : Type 0} (asked : List A) (calls : List (A × Result V F)) (values : List V) (next : A) (value : V) → AreAnswered asked calls values → AreAnswered (asked ++ next ∷ []) (calls ++ (next, Ok value) ∷ []) (values ++ value ∷ [])
answered_more [] [] [] next value are = (refl, refl, tt)
answered_more [] [] (_ ∷ _) next value are = absurd are
answered_more [] (_ ∷ _) values next value are = absurd are
answered_more (_ ∷ _) [] values next value are = absurd are
answered_more (_ ∷ _) (_ ∷ _) [] next value are = absurd are
answered_more (first ∷ asked) (call ∷ calls) (v ∷ values) next value are = (are.0, are.1, answered_more asked calls values next value are.2)

-- the first so many, and the next
one_longer : {N A : Type 0} (asked_by : N → A) (items : List N) (i : ℕ) (d : N) → i < length items → take (i + 1) (map asked_by items) ≡ take i (map asked_by items) ++ asked_by (get_or items i d) ∷ []
one_longer asked_by items i d lt =
    take-map asked_by (i + 1) items ∙ ap (map asked_by) (take_more items i d lt) ∙ map-append asked_by (take i items) (get_or items i d ∷ [])
    ∙ ap (λ xs. xs ++ asked_by (get_or items i d) ∷ []) (sym (take-map asked_by i items))

-- before the first call
pub begun : {S A V F : Type 0} (R : S → A → Result V F → S → Type 0) (first : S) → Keeps R first first [] []
begun R first = record { calls = []; are_made = made_none R first; answered = tt }

-- one turn: the next was answered
pub turned : {S N A V F : Type 0} (R : S → A → Result V F → S → Type 0) (asked_by : N → A) (items : List N) (i : ℕ) (d : N) (first before after : S) (values : List V) (value : V) → i < length items → Keeps R first before (take i (map asked_by items)) values → R before (asked_by (get_or items i d)) (Ok value) after → Keeps R first after (take (i + 1) (map asked_by items)) (values ++ value ∷ [])
turned R asked_by items i d first before after values value lt kept call =
    let next = asked_by (get_or items i d) in
    record {
      calls = kept.calls ++ (next, Ok value) ∷ [];
      are_made = made_then R first kept.calls before ((next, Ok value) ∷ []) after kept.are_made (made_one R before next (Ok value) after call);
      answered = subst (λ asked. AreAnswered asked (kept.calls ++ (next, Ok value) ∷ []) (values ++ value ∷ [])) (sym (one_longer asked_by items i d lt)) (answered_more (take i (map asked_by items)) kept.calls values next value kept.answered);
    }

-- the next failed
pub failed : {S N A V F : Type 0} (R : S → A → Result V F → S → Type 0) (Between : F → Type 0) (asked_by : N → A) (items : List N) (i : ℕ) (d : N) (first before after : S) (values : List V) (fault : F) → i < length items → Keeps R first before (take i (map asked_by items)) values → R before (asked_by (get_or items i d)) (Err fault) after → Ended {V = V} R Between first after (map asked_by items) (Err fault)
failed R Between asked_by items i d first before after values fault lt kept call =
    let next = asked_by (get_or items i d) in
    let all = map asked_by items in
    let left = drop (i + 1) all in
    record {
      calls = kept.calls ++ (next, Err fault) ∷ [];
      are_made = made_then R first kept.calls before ((next, Err fault) ∷ []) after kept.are_made (made_one R before next (Err fault) after call);
      in_order = record {
        earlier = take i all;
        left = next ∷ left;
        asked_are = sym (take-append-drop (i + 1) all) ∙ ap (λ xs. xs ++ left) (one_longer asked_by items i d lt) ∙ append_assoc (take i all) (next ∷ []) left;
        before = kept.calls;
        last = (next, Err fault) ∷ [];
        calls_are = refl;
        values = values;
        answered = kept.answered;
        ends = (refl, refl);
      };
    }

-- it ended between two calls
pub ran_out : {S N A V F : Type 0} (R : S → A → Result V F → S → Type 0) (Between : F → Type 0) (asked_by : N → A) (items : List N) (i : ℕ) (first now : S) (values : List V) (fault : F) → Between fault → Keeps R first now (take i (map asked_by items)) values → Ended {V = V} R Between first now (map asked_by items) (Err fault)
ran_out R Between asked_by items i first now values fault may kept =
    let all = map asked_by items in
    record {
      calls = kept.calls;
      are_made = kept.are_made;
      in_order = record {
        earlier = take i all;
        left = drop i all;
        asked_are = sym (take-append-drop i all);
        before = kept.calls;
        last = [];
        calls_are = sym (append-nil kept.calls);
        values = values;
        answered = kept.answered;
        ends = may;
      };
    }
