use Rattle.std.proofs.Common.{◌≡◌, ◌++◌, ◌∙◌, ℕ, List, [], refl, ap, append_assoc, codes, unwrap_or}
use Rattle.http.specs.StatusCode.{code_digits, reason_phrase}
use Rattle.httparse.specs.Ascii.{crlf_bytes}
use Rattle.http_front.specs.Answers.{header_line, kept_lines, body_line, head_text}
use Rattle.http_front.proofs.writing.head_of.Goals as goal

added : (a k l m n t0 t1 t2 t3 t4 t5 : List ℕ) → t0 ≡ [] → t1 ≡ t0 ++ a → t2 ≡ t1 ++ k → t3 ≡ t2 ++ l → t4 ≡ t3 ++ m → t5 ≡ t4 ++ n
    → t5 ≡ a ++ (k ++ (l ++ (m ++ n)))
added a k l m n t0 t1 t2 t3 t4 t5 e0 e1 e2 e3 e4 e5 =
    e5 ∙ ap (λ (t : List ℕ). t ++ n) (e4 ∙ ap (λ (t : List ℕ). t ++ m) (e3 ∙ ap (λ (t : List ℕ). t ++ l) (e2 ∙ ap (λ (t : List ℕ). t ++ k)
    (e1 ∙ ap (λ (t : List ℕ). t ++ a) e0))))
    ∙ simp append_assoc refl

pub returns : goal.returns
returns c =
    let phrase = unwrap_or (reason_phrase c.args.status) [] in
    let kept = kept_lines c.args.fields.now in
    let body = body_line c.args.request.now.method c.args.status c.args.request.now.version c.args.length in
    let close = header_line (codes "connection") (codes "close") in
    let rest = kept ++ (body ++ (close ++ crlf_bytes)) in
    let start = codes "HTTP/1.1 " ++ (code_digits c.args.status ++ (codes " " ++ (phrase ++ crlf_bytes))) in
    let text : c.into_bytes.result.items ≡ start ++ rest =
    c.into_bytes.ensures
    ∙ added start kept body close crlf_bytes c.new.result c.in_ok-text.text c.in_ok-text-2.text c.in_ok-text-3.text c.in_ok-header.field-0 c.in_ok-text-4.text
    c.new.ensures c.in_ok-text.ensures c.in_ok-text-2.ensures c.in_ok-text-3.ensures c.in_ok-header.ensures c.in_ok-text-4.ensures in
    let whole : c.into_bytes.result.items ≡ head_text c.args.request.now c.args.status c.args.fields.now c.args.length =
    text ∙ ap (λ (t : List ℕ). codes "HTTP/1.1 " ++ (code_digits c.args.status ++ (codes " " ++ t))) (append_assoc phrase crlf_bytes rest) in
    rw whole at c.from_vec.ensures
