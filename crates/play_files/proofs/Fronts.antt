-- A text is one request where a request stands at its front, and none at the front of all but its last byte.
use Rattle.std.proofs.Common.{◌≡◌, ◌+◌, ◌-◌, ℕ, suc, true, false, Bool, List, [], ◌∷◌, ◌++◌, length, take, drop, refl, sym, ◌∙◌, ap, subst, arith, append_assoc, append-nil, length-append, Option, None, Some, Result, Err}
use Rattle.std.proofs.lemmas.List.{take-append-drop, length-drop}
use Rattle.httparse.specs.Grammar as grammar
use Rattle.httparse.proofs.GrammarLemmas.{request_unique}
use Rattle.http_text.specs.Bodies.{IsTold}
use Rattle.http_text.proofs.ChunkLaws.{same_front, chunked_unique}
use Rattle.edge_outside.specs.declared.fault.Failed.{Failed}
use Rattle.edge_outside.specs.Source.{SourceContent}
use Rattle.edge_outside.specs.Reads.{OneRead, Reads}
use Rattle.http_front.specs.declared.heads.Incoming.{Incoming}
use Rattle.http_front.specs.declared.fault.FrontFault.{FrontFault}
use Rattle.http_front.specs.declared.fault.FrontFault.TheVariants.{Bad, HeadTooLarge, TooLarge, Unsupported, Cut, ReadFault, OutOfMemory}
use Rattle.http_front.specs.Heads.{head_of, is_chunked, stated_length}
use Rattle.http_front.specs.Requests.{IsBody, IsRequest, Finds}
use Rattle.http_front.proofs.Finds.{front_read}
use Rattle.http_front.proofs.HeadEnds.{nothing_yet}
use Rattle.play_files.specs.Requests.{IsRequestText}
use Rattle.play_files.specs.Whole.{IsAtFront, TellsFront}

-- the head of a request at the front
head_reads : (bytes text rest : List ℕ) (i : Incoming) → (x : IsRequest text i) → bytes ≡ text ++ rest → grammar.ReadsRequest bytes x.tree (x.body_text ++ rest)
head_reads bytes text rest i x e =
    (x.is_head, e ∙ ap (λ (t : List ℕ). t ++ rest) x.text_is ∙ append_assoc (grammar.print_request x.tree) x.body_text rest)

-- one body stands at the front, and one rest behind it
same_rest : (chunked : Bool) (n : ℕ) (s b r t d q : List ℕ) → IsTold chunked n s b → IsTold chunked n t d → s ++ r ≡ t ++ q → r ≡ q
same_rest true n s b r t d q x y e = (chunked_unique s b r t d q x y e).1
same_rest false n s b r t d q x y e =
    let lengths : length s ≡ length t = ap (λ (u : List ℕ). length u) x.same ∙ x.count ∙ sym y.count ∙ ap (λ (u : List ℕ). length u) (sym y.same) in
    (same_front s t r q lengths e).1

-- so what stands behind the request at the front is told by the bytes
rest_once : (bytes s t r q : List ℕ) (i j : Incoming) → IsRequest s i → IsRequest t j → bytes ≡ s ++ r → bytes ≡ t ++ q → r ≡ q
rest_once bytes s t r q i j x y e f =
    let same = request_unique bytes x.tree y.tree (x.body_text ++ r) (y.body_text ++ q) (head_reads bytes s r i x e) (head_reads bytes t q j y f) in
    same_rest (is_chunked (head_of y.tree)) (stated_length (head_of y.tree)) x.body_text i.body r y.body_text j.body q
    (subst (λ (h : grammar.RequestHead). IsBody (head_of h) x.body_text i.body) same.0 x.body) y.body same.1

-- no request has no bytes
no_empty : (text : List ℕ) (i : Incoming) → IsRequest text i → text ≡ [] → ⊥
no_empty text i x e = nothing_yet x.tree (x.body_text ++ []) (head_reads [] text [] i x (sym e ∙ sym (append-nil text)))

no_length : (xs : List ℕ) → length xs ≡ 0 → xs ≡ []
no_length [] e = refl
no_length (x ∷ xs) e = absurd (omega (arith, e))

take_past : (text rest : List ℕ) (more : ℕ) → take (length text + more) (text ++ rest) ≡ text ++ take more rest
take_past [] rest more = let same : length {A = ℕ} [] + more ≡ more = omega arith in ap (λ (n : ℕ). take n rest) same
take_past (x ∷ text) rest more =
    let same : length (x ∷ text) + more ≡ suc (length text + more) = omega arith in
    ap (λ (n : ℕ). take n (x ∷ (text ++ rest))) same ∙ ap (λ (l : List ℕ). x ∷ l) (take_past text rest more)

-- what is left of a request at the front is at the front of all but the last byte, unless nothing stands behind it
front_of : (text front t rest more : List ℕ) (x : ℕ) → front ≡ take (length text - 1) text → text ≡ t ++ rest → rest ≡ x ∷ more → front ≡ t ++ take (length more) rest
front_of text front t rest more x is at e =
    let all : length text ≡ length (t ++ rest) = ap (λ (l : List ℕ). length l) at in
    let tail : length rest ≡ length (x ∷ more) = ap (λ (l : List ℕ). length l) e in
    let count : length text - 1 ≡ length t + length more = omega (arith, all, tail, length-append t rest) in
    is ∙ ap (λ (n : ℕ). take n text) count ∙ ap (λ (l : List ℕ). take (length t + length more) l) at ∙ take_past t rest (length more)

pub whole_is : (text front : List ℕ) (i : Incoming) → front ≡ take (length text - 1) text → IsAtFront text i → ((j : Incoming) → IsAtFront front j → ⊥) → IsRequest text i
whole_is text front i is at none =
    let with : (rest : List ℕ) → at.1 ≡ rest → IsRequest text i =
    elim [
      | [] ↦ λ e. subst (λ (u : List ℕ). IsRequest u i) (sym (at.3 ∙ ap (λ (r : List ℕ). at.0 ++ r) e ∙ append-nil at.0)) at.2
      | x ∷ more ↦ λ e. absurd (none i (at.0, take (length more) at.1, at.2, front_of text front at.0 at.1 more x is at.3 e))
    ] in with at.1 refl

-- a text of more than one request is none
pub not_whole : (text front : List ℕ) (j : Incoming) → front ≡ take (length text - 1) text → IsAtFront front j → IsRequestText text → ⊥
not_whole text front j is at some =
    let n : ℕ = length text - 1 in
    let parts : text ≡ at.0 ++ (at.1 ++ drop n text) =
    sym (take-append-drop n text) ∙ ap (λ (l : List ℕ). l ++ drop n text) (sym is ∙ at.3) ∙ append_assoc at.0 at.1 (drop n text)
    in
    let nothing = rest_once text text at.0 [] (at.1 ++ drop n text) some.0 j some.1 at.2 (sym (append-nil text)) parts in
    let none : length {A = ℕ} [] ≡ length (at.1 ++ drop n text) = ap (λ (l : List ℕ). length l) nothing in
    no_empty text some.0 some.1 (no_length text (omega (arith, none, length-append at.1 (drop n text), length-drop n text)))

pub none_whole : (text : List ℕ) → ((i : Incoming) → IsAtFront text i → ⊥) → IsRequestText text → ⊥
none_whole text none some = none some.0 (text, [], some.1, sym (append-nil text))

-- ---- what a source told

-- the request that was read of a source is at the front of its content
pub found_front : {S : Type 0} (reads : S → ℕ → Result (List ℕ) Failed → S → Type 0) (count : S → ℕ) (told : S → Option SourceContent) (Open : List ℕ → Type 0)
    (old new : S) (content : SourceContent) (text dropped : List ℕ) (i : Incoming) → told old ≡ Some content → IsRequest text i
    → Reads (OneRead reads count told) Open old [] (text ++ dropped) new → IsAtFront content.bytes i
found_front reads count told Open old new content text dropped i e is r =
    let x = front_read reads count told Open old [] (text ++ dropped) new content e r in
    (text, dropped ++ x.left.bytes, is, x.bytes_is ∙ ap (λ (t : List ℕ). t ++ x.left.bytes) (sym x.known_is) ∙ append_assoc text dropped x.left.bytes)

fault_none : (e : FrontFault) (i : Incoming) → (e ≡ OutOfMemory → ⊥) → (e ≡ ReadFault → ⊥) → Finds (Err e) i → ⊥
fault_none Bad i no_memory no_fault finds = finds
fault_none HeadTooLarge i no_memory no_fault finds = finds
fault_none TooLarge i no_memory no_fault finds = finds
fault_none Unsupported i no_memory no_fault finds = finds
fault_none Cut i no_memory no_fault finds = finds
fault_none ReadFault i no_memory no_fault finds = no_fault refl
fault_none OutOfMemory i no_memory no_fault finds = no_memory refl

-- a fault of the bytes says that no request is at their front
pub none_front : (r : Result Incoming FrontFault) (e : FrontFault) (bytes : List ℕ) → r ≡ Err e → (e ≡ OutOfMemory → ⊥) → (e ≡ ReadFault → ⊥)
    → ((text rest : List ℕ) (i : Incoming) → IsRequest text i → bytes ≡ text ++ rest → Finds r i) → TellsFront bytes None
none_front r e bytes is no_memory no_fault finds =
    λ i at. fault_none e i no_memory no_fault (subst (λ (r : Result Incoming FrontFault). Finds r i) is (finds at.0 at.1 i at.2 at.3))
