-- The lines of a request's headers, and its text piece by piece.
use Rattle.std.proofs.Common.{◌≡◌, ℕ, true, List, [], ◌∷◌, ◌++◌, length, refl, sym, ◌∙◌, ap, subst, append_assoc, codes, decimal, Result, IfOk}
use Rattle.std.proofs.lemmas.List.Concat.{flat_map-cons}
use Rattle.std.proofs.lemmas.Grind.{flat_map-append}
use Rattle.cache_types.specs.declared.calls.Field.{Field}
use Rattle.edge_body.specs.Heads.{Request}
use Rattle.http_front.specs.Answers.{header_line}
use Rattle.http_front.specs.Laws.{field}
use Rattle.http_front.proofs.ReadBack.{one_line}
use Rattle.edge_link.specs.Requests.{host_of, kept_fields, has_length, length_fields, fields_with, lines_of, text_with, request_text}

pub length_is : (method body : List ℕ) → has_length method body ≡ true
    → header_line (codes "content-length") (decimal (length body)) ≡ lines_of (length_fields method body)
length_is method body e = rw e (one_line (codes "content-length") (decimal (length body)))

pub lines_are_in_order : (head : Request) (body host : List ℕ)
    → lines_of (fields_with head body host)
    ≡ header_line (codes "host") host
    ++ (lines_of (kept_fields head.fields) ++ (lines_of (length_fields head.method body) ++ header_line (codes "connection") (codes "close")))
lines_are_in_order head body host =
    let line : Field → List ℕ = λ (f : Field). header_line f.name f.value in
    let kept : List Field = kept_fields head.fields in
    let told : List Field = length_fields head.method body in
    let close : List Field = field (codes "connection") (codes "close") ∷ [] in
    flat_map-cons line (field (codes "host") host) (kept ++ (told ++ close))
    ∙ ap (λ (t : List ℕ). header_line (codes "host") host ++ t)
    (flat_map-append line kept (told ++ close)
    ∙ ap (λ (t : List ℕ). lines_of kept ++ t)
    (flat_map-append line told close ∙ ap (λ (t : List ℕ). lines_of told ++ t) (sym (one_line (codes "connection") (codes "close")))))

pub four_pieces : {E : Type 0} (r : Result (List ℕ) E) (a k l m t0 t1 t2 t3 : List ℕ) → t1 ≡ t0 ++ a → t2 ≡ t1 ++ k → t3 ≡ t2 ++ l
    → IfOk r (λ new. new ≡ t3 ++ m) → IfOk r (λ new. new ≡ t0 ++ (a ++ (k ++ (l ++ m))))
four_pieces r a k l m t0 t1 t2 t3 e1 e2 e3 x =
    let all : t3 ++ m ≡ t0 ++ (a ++ (k ++ (l ++ m))) =
    ap (λ (t : List ℕ). t ++ m) (e3 ∙ ap (λ (t : List ℕ). t ++ l) (e2 ∙ ap (λ (t : List ℕ). t ++ k) e1)) ∙ simp append_assoc refl in
    subst (λ (u : List ℕ). IfOk r (λ new. new ≡ u)) all x

pub three_pieces : {E : Type 0} (r : Result (List ℕ) E) (a k l t0 t1 t2 : List ℕ) → t0 ≡ [] → t1 ≡ t0 ++ a → t2 ≡ t1 ++ k
    → IfOk r (λ new. new ≡ t2 ++ l) → IfOk r (λ new. new ≡ a ++ (k ++ l))
three_pieces r a k l t0 t1 t2 e0 e1 e2 x =
    let all : t2 ++ l ≡ a ++ (k ++ l) =
    ap (λ (t : List ℕ). t ++ l) (e2 ∙ ap (λ (t : List ℕ). t ++ k) (e1 ∙ ap (λ (t : List ℕ). t ++ a) e0)) ∙ append_assoc a k l in
    subst (λ (u : List ℕ). IfOk r (λ new. new ≡ u)) all x

pub text_told : {E : Type 0} (r : Result (List ℕ) E) (head : Request) (items text body authority host : List ℕ) → host ≡ host_of head.fields authority
    → text ≡ text_with head body host → items ≡ text → IfOk r (λ octets. octets ≡ items) → IfOk r (λ bytes. bytes ≡ request_text head body authority)
text_told r head items text body authority host e f g x =
    subst (λ (u : List ℕ). IfOk r (λ octets. octets ≡ u)) (g ∙ f ∙ ap (λ (h : List ℕ). text_with head body h) e) x
