-- The request at the front of a content is the one that is answered.
use Rattle.std.proofs.Common.{◌≡◌, ◌≢◌, ℕ, ◌≤◌, List, [], ◌++◌, length, sym, ◌∙◌, ap, subst, arith, append_assoc, append-nil, Bool, true, false, None, Some, inl, inr}
use Rattle.httparse.specs.Grammar as grammar
use Rattle.httparse.proofs.GrammarLemmas.{request_unique, ReadsRequest-append}
use Rattle.http_text.specs.Fields.{most_body}
use Rattle.http_text.specs.Bodies.{IsTold, IsWrong, IsOver}
use Rattle.http_text.proofs.Lines.{front_inside}
use Rattle.http_text.proofs.ChunkLaws.{same_front, chunked_unique, never_over, never_wrong}
use Rattle.http_front.specs.declared.heads.Head.{Head}
use Rattle.http_front.specs.declared.heads.Incoming.{Incoming}
use Rattle.http_front.specs.declared.fault.FrontFault.{FrontFault}
use Rattle.http_front.specs.declared.fault.FrontFault.TheVariants.{Bad, TooLarge, Unsupported}
use Rattle.http_front.specs.Heads.{head_of, head_fault, is_chunked, stated_length, request_of, IsLargeHead}
use Rattle.http_front.specs.Requests.{IsBody, IsRequest, HasHeadFault, HasHeadAnd, IsWrongBody, IsLargeBody, HasNoBody, IsBad, IsTooLarge, IsUnfinished}

-- the head of a request at the front
head_reads : (bytes text rest : List ℕ) (i : Incoming) → (x : IsRequest text i) → bytes ≡ text ++ rest → grammar.ReadsRequest bytes x.tree (x.body_text ++ rest)
head_reads bytes text rest i x e =
    (x.is_head, e ∙ ap (λ (t : List ℕ). t ++ rest) x.text_is ∙ append_assoc (grammar.print_request x.tree) x.body_text rest)

-- one body stands at the front
told_once : (chunked : Bool) (n : ℕ) (s b r t d q : List ℕ) → IsTold chunked n s b → IsTold chunked n t d → s ++ r ≡ t ++ q → b ≡ d
told_once true n s b r t d q x y e = (chunked_unique s b r t d q x y e).0
told_once false n s b r t d q x y e =
    let lengths : length s ≡ length t = ap (λ (u : List ℕ). length u) x.same ∙ x.count ∙ sym y.count ∙ ap (λ (u : List ℕ). length u) (sym y.same) in
    sym x.same ∙ (same_front s t r q lengths e).0 ∙ y.same

one_body : (head : Head) (s b r t d q : List ℕ) → IsBody head s b → IsBody head t d → s ++ r ≡ t ++ q → b ≡ d
one_body head s b r t d q x y e = told_once (is_chunked head) (stated_length head) s b r t d q x y e

told_wrong : (chunked : Bool) (n : ℕ) (bytes more text body rest : List ℕ) → IsWrong chunked bytes → IsTold chunked n text body → bytes ++ more ≢ text ++ rest
told_wrong true n bytes more text body rest x y = never_wrong bytes more text body rest x y
told_wrong false n bytes more text body rest x y = absurd x

told_over : (chunked : Bool) (n : ℕ) (bytes more text body rest : List ℕ) → IsOver chunked bytes → IsTold chunked n text body → length body ≤ most_body → bytes ++ more ≢ text ++ rest
told_over true n bytes more text body rest x y fits = never_over bytes more text body rest x y fits
told_over false n bytes more text body rest x y fits = absurd x

-- one text has one request
pub one_request : (bytes s t r q : List ℕ) (i j : Incoming) → IsRequest s i → IsRequest t j → bytes ≡ s ++ r → bytes ≡ t ++ q → i ≡ j
one_request bytes s t r q i j x y e f =
    let same = request_unique bytes x.tree y.tree (x.body_text ++ r) (y.body_text ++ q) (head_reads bytes s r i x e) (head_reads bytes t q j y f) in
    let head : i.head ≡ j.head = x.head_is ∙ ap (λ (h : grammar.RequestHead). request_of (head_of h)) same.0 ∙ sym y.head_is in
    let body : i.body ≡ j.body = one_body (head_of y.tree) x.body_text i.body r y.body_text j.body q
    (subst (λ (h : grammar.RequestHead). IsBody (head_of h) x.body_text i.body) same.0 x.body) y.body same.1 in
    λ k. record { head = head k; body = body k }

no_fault : (fault : FrontFault) (read more text rest : List ℕ) (i : Incoming) → IsRequest text i → read ++ more ≡ text ++ rest → HasHeadFault fault read → ⊥
no_fault fault read more text rest i x e found =
    let same = request_unique (read ++ more) x.tree found.0 (x.body_text ++ rest) (found.1 ++ more)
    (head_reads (read ++ more) text rest i x e) (ReadsRequest-append read found.0 found.1 more found.2) in
    let none : Some fault ≡ None = sym found.3 ∙ ap (λ (h : grammar.RequestHead). head_fault (head_of h)) (sym same.0) ∙ x.good in
    cc none

-- what follows a head at the front is its body and the rest
behind : (P : Head → List ℕ → Type 0) (read more text rest : List ℕ) (i : Incoming) → (x : IsRequest text i) → read ++ more ≡ text ++ rest → (y : HasHeadAnd P read)
    → (head_of x.tree ≡ head_of y.tree) × (y.rest ++ more ≡ x.body_text ++ rest)
behind P read more text rest i x e y =
    let same = request_unique (read ++ more) x.tree y.tree (x.body_text ++ rest) (y.rest ++ more)
    (head_reads (read ++ more) text rest i x e) (ReadsRequest-append read y.tree y.rest more y.reads) in
    (ap head_of same.0, sym same.1)

no_wrong : (read more text rest : List ℕ) (i : Incoming) → IsRequest text i → read ++ more ≡ text ++ rest → HasHeadAnd IsWrongBody read → ⊥
no_wrong read more text rest i x e y =
    let b = behind IsWrongBody read more text rest i x e y in
    told_wrong (is_chunked (head_of y.tree)) (stated_length (head_of y.tree)) y.rest more x.body_text i.body rest y.after
    (subst (λ h. IsBody h x.body_text i.body) b.0 x.body) b.1

no_large_body : (read more text rest : List ℕ) (i : Incoming) → IsRequest text i → read ++ more ≡ text ++ rest → HasHeadAnd IsLargeBody read → ⊥
no_large_body read more text rest i x e y =
    let b = behind IsLargeBody read more text rest i x e y in
    told_over (is_chunked (head_of y.tree)) (stated_length (head_of y.tree)) y.rest more x.body_text i.body rest y.after
    (subst (λ h. IsBody h x.body_text i.body) b.0 x.body) x.fits b.1

-- no fault is told of bytes that a request begins with, whatever follows
pub no_bad : (read more text rest : List ℕ) (i : Incoming) → IsRequest text i → read ++ more ≡ text ++ rest → IsBad read → ⊥
no_bad read more text rest i x e (inl never) = never more x.tree (x.body_text ++ rest) (head_reads (read ++ more) text rest i x e)
no_bad read more text rest i x e (inr (inl found)) = no_fault Bad read more text rest i x e found
no_bad read more text rest i x e (inr (inr y)) = no_wrong read more text rest i x e y

pub no_too_large : (read more text rest : List ℕ) (i : Incoming) → IsRequest text i → read ++ more ≡ text ++ rest → IsTooLarge read → ⊥
no_too_large read more text rest i x e (inl found) = no_fault TooLarge read more text rest i x e found
no_too_large read more text rest i x e (inr y) = no_large_body read more text rest i x e y

pub no_unsupported : (read more text rest : List ℕ) (i : Incoming) → IsRequest text i → read ++ more ≡ text ++ rest → HasHeadFault Unsupported read → ⊥
no_unsupported read more text rest i x e found = no_fault Unsupported read more text rest i x e found

pub no_large : (read more text rest : List ℕ) (i : Incoming) → IsRequest text i → read ++ more ≡ text ++ rest → IsLargeHead read → ⊥
no_large read more text rest i x e (inl large) =
    let reads = head_reads (read ++ more) text rest i x e in
    let inside = front_inside read more (grammar.print_request x.tree) (x.body_text ++ rest) reads.1 (omega (arith, x.short, large.1)) in
    let over = large.0 x.tree _ (x.is_head, inside) in
    omega (arith, over, x.few)
no_large read more text rest i x e (inr large) =
    let over = large.0 more x.tree (x.body_text ++ rest) (head_reads (read ++ more) text rest i x e) in
    omega (arith, over, x.few)

-- bytes that a request begins are no unfinished ones
pub no_unfinished : (read text rest : List ℕ) (i : Incoming) → IsRequest text i → read ≡ text ++ rest → IsUnfinished read → ⊥
no_unfinished read text rest i x e (inl none) = none x.tree (x.body_text ++ rest) (head_reads read text rest i x e)
no_unfinished read text rest i x e (inr y) =
    let b = behind HasNoBody read [] text rest i x (append-nil read ∙ e) y in
    y.after x.body_text i.body rest (subst (λ h. IsBody h x.body_text i.body) b.0 x.body) (sym (append-nil y.rest) ∙ b.1)
