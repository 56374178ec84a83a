-- Interim heads at the front of the bytes are those of any response there, so one response's head stands behind them.
use Rattle.std.proofs.Common.{◌≡◌, ℕ, true, false, ◌<◌, List, [], ◌∷◌, ◌++◌, length, refl, sym, ◌∙◌, ap, subst, arith, append_assoc, append-nil, length-append, All}
use Rattle.std.specs.List.{flat_map}
use Rattle.std.proofs.lemmas.Grind.{common_steps, flat_map-append}
use Rattle.std.proofs.lemmas.Bool.Decides.{nat_tests}
use Rattle.std.proofs.lemmas.List.Elements.{All-nil, All-cons, All-head, All-tail, All-append}
use Rattle.std.proofs.lemmas.List.Concat.{flat_map-cons}
use Rattle.httparse.specs.Grammar.{ResponseHead, print_response, print_blank, print_version, print_reason, print_end, print_section, ReadsResponse, status_code}
use Rattle.httparse.proofs.GrammarLemmas.{response_unique}
use Rattle.edge_body.specs.Heads.{is_status}
use Rattle.edge_link.specs.Heads.{is_interim, IsInterim, IsLast, IsLed, HasNoLast, HasNoSmallHead, Passes}

apart : (n : ℕ) → is_interim n ≡ true → is_status n ≡ true → ⊥
apart n x y = grind (nat_tests, arith, common_steps)

-- one head is no interim one and a response's at once
not_both : (c t : ResponseHead) → IsInterim c → IsLast t → c ≡ t → ⊥
not_both c t x y e = apart (status_code t) (subst (λ (h : ResponseHead). is_interim (status_code h) ≡ true) e x.1) y.1

one_off : (c : ResponseHead) (after : List ℕ) (t : ResponseHead) (rest : List ℕ) (ds : List ResponseHead) → IsInterim c → All IsInterim ds → IsLast t
    → print_response c ++ after ≡ flat_map print_response ds ++ (print_response t ++ rest) → IsLed after t rest
one_off c after t rest [] x each last e =
    absurd (not_both c t x last (response_unique (print_response c ++ after) c t after rest (x.0.0, refl) (last.0.0, e)).0)
one_off c after t rest (d ∷ ds) x each last e =
    let behind = flat_map print_response ds ++ (print_response t ++ rest) in
    let same = response_unique (print_response c ++ after) c d after behind (x.0.0, refl) (
      (All-head IsInterim d ds each).0.0,
      e ∙ ap (λ (u : List ℕ). u ++ (print_response t ++ rest)) (flat_map-cons print_response d ds)
          ∙ append_assoc (print_response d) (flat_map print_response ds) (print_response t ++ rest),
    ) in
    record { interim = ds; each = All-tail IsInterim d ds each; last = last; bytes_are = same.1 }

heads_off : (cs : List ResponseHead) (after : List ℕ) (t : ResponseHead) (rest : List ℕ) → All IsInterim cs
    → IsLed (flat_map print_response cs ++ after) t rest → IsLed after t rest
heads_off [] after t rest each x = x
heads_off (c ∷ cs) after t rest each x =
    let behind = flat_map print_response cs ++ after in
    let first : flat_map print_response (c ∷ cs) ++ after ≡ print_response c ++ behind =
    ap (λ (u : List ℕ). u ++ after) (flat_map-cons print_response c cs) ∙ append_assoc (print_response c) (flat_map print_response cs) after in
    heads_off cs after t rest (All-tail IsInterim c cs each)
    (one_off c behind t rest x.interim (All-head IsInterim c cs each) x.each x.last (sym first ∙ x.bytes_are))

-- what stands behind interim heads leads to the same
pub passed : (bytes after : List ℕ) (t : ResponseHead) (rest : List ℕ) → Passes bytes after → IsLed bytes t rest → IsLed after t rest
passed bytes after t rest (cs, each, e) x = heads_off cs after t rest each (subst (λ (u : List ℕ). IsLed u t rest) e x)

-- where no head stands there is none of a response
none_first : (bytes : List ℕ) (t : ResponseHead) (rest : List ℕ) (ds : List ResponseHead) → All IsInterim ds → IsLast t → HasNoSmallHead bytes
    → bytes ≡ flat_map print_response ds ++ (print_response t ++ rest) → ⊥
none_first bytes t rest [] each last none e = omega (arith, none t rest (last.0.0, e), last.0.1)
none_first bytes t rest (d ∷ ds) each last none e =
    let x = All-head IsInterim d ds each in
    let behind = flat_map print_response ds ++ (print_response t ++ rest) in
    omega (
      arith,
      none d behind (
        x.0.0,
        e ∙ ap (λ (u : List ℕ). u ++ (print_response t ++ rest)) (flat_map-cons print_response d ds)
            ∙ append_assoc (print_response d) (flat_map print_response ds) (print_response t ++ rest),
      ),
      x.0.1,
    )

pub no_head : (bytes after : List ℕ) → Passes bytes after → HasNoSmallHead after → HasNoLast bytes
no_head bytes after x none t rest y =
    let z = passed bytes after t rest x y in none_first after t rest z.interim z.each z.last none z.bytes_are

-- a head that is neither ends all
wrong_first : (bytes : List ℕ) (c : ResponseHead) (q : List ℕ) (t : ResponseHead) (rest : List ℕ) (ds : List ResponseHead) → ReadsResponse bytes c q
    → is_interim (status_code c) ≡ false → is_status (status_code c) ≡ false → All IsInterim ds → IsLast t
    → bytes ≡ flat_map print_response ds ++ (print_response t ++ rest) → ⊥
wrong_first bytes c q t rest [] x a b each last e =
    let same = response_unique bytes c t q rest x (last.0.0, e) in
    cc (b, subst (λ (h : ResponseHead). is_status (status_code h) ≡ true) (sym same.0) last.1)
wrong_first bytes c q t rest (d ∷ ds) x a b each last e =
    let y = All-head IsInterim d ds each in
    let behind = flat_map print_response ds ++ (print_response t ++ rest) in
    let same = response_unique bytes c d q behind x (
      y.0.0,
      e ∙ ap (λ (u : List ℕ). u ++ (print_response t ++ rest)) (flat_map-cons print_response d ds)
          ∙ append_assoc (print_response d) (flat_map print_response ds) (print_response t ++ rest),
    ) in
    cc (a, subst (λ (h : ResponseHead). is_interim (status_code h) ≡ true) (sym same.0) y.1)

pub wrong_head : (bytes after : List ℕ) (c : ResponseHead) (q : List ℕ) → Passes bytes after → ReadsResponse after c q
    → is_interim (status_code c) ≡ false → is_status (status_code c) ≡ false → HasNoLast bytes
wrong_head bytes after c q x reads a b t rest y =
    let z = passed bytes after t rest x y in wrong_first after c q t rest z.interim reads a b z.each z.last z.bytes_are

-- interim heads, and one more
pub pass_more : (bytes after : List ℕ) (c : ResponseHead) (q : List ℕ) → Passes bytes after → ReadsResponse after c q → IsInterim c → Passes bytes q
pass_more bytes after c q (cs, each, e) reads x = (
  cs ++ c ∷ [],
  All-append IsInterim cs (c ∷ []) each (All-cons IsInterim c [] x (All-nil IsInterim)),
  e ∙ ap (λ (u : List ℕ). flat_map print_response cs ++ u) reads.1
      ∙ sym (ap (λ (u : List ℕ). u ++ q) (flat_map-append print_response cs (c ∷ [])
      ∙ ap (λ (u : List ℕ). flat_map print_response cs ++ u) (flat_map-cons print_response c [] ∙ append-nil (print_response c)))
      ∙ append_assoc (flat_map print_response cs) (print_response c) q),
)

-- a response's head behind them
pub leads : (bytes after : List ℕ) (c : ResponseHead) (q : List ℕ) → Passes bytes after → ReadsResponse after c q → IsLast c → IsLed bytes c q
leads bytes after c q (cs, each, e) reads x = record {
  interim = cs;
  each = each;
  last = x;
  bytes_are = e ∙ ap (λ (u : List ℕ). flat_map print_response cs ++ u) reads.1;
}

-- nothing was passed yet
pub passes_none : (bytes : List ℕ) → Passes bytes bytes
passes_none bytes = ([], All-nil IsInterim, refl)

-- one head of a response
unique_first : (t u : ResponseHead) (rest q : List ℕ) (ds : List ResponseHead) → IsLast t → IsLast u → All IsInterim ds
    → print_response t ++ rest ≡ flat_map print_response ds ++ (print_response u ++ q) → (t ≡ u) × (rest ≡ q)
unique_first t u rest q [] x y each e = response_unique (print_response t ++ rest) t u rest q (x.0.0, refl) (y.0.0, e)
unique_first t u rest q (d ∷ ds) x y each e =
    let z = All-head IsInterim d ds each in
    let behind = flat_map print_response ds ++ (print_response u ++ q) in
    absurd (not_both d t z x (sym (response_unique (print_response t ++ rest) t d rest behind (x.0.0, refl) (
      z.0.0,
      e ∙ ap (λ (v : List ℕ). v ++ (print_response u ++ q)) (flat_map-cons print_response d ds)
          ∙ append_assoc (print_response d) (flat_map print_response ds) (print_response u ++ q),
    )).0))

pub led_unique : (bytes : List ℕ) (t u : ResponseHead) (rest q : List ℕ) → IsLed bytes t rest → IsLed bytes u q → (t ≡ u) × (rest ≡ q)
led_unique bytes t u rest q x y =
    let z = passed bytes (print_response t ++ rest) u q (x.interim, x.each, x.bytes_are) y in
    unique_first t u rest q z.interim x.last z.last z.each z.bytes_are

-- a head has a byte
pub some_bytes : (t : ResponseHead) → 0 < length (print_response t)
unfolding print_response
some_bytes t =
    let first : List ℕ = print_blank t.blank ++ print_version t.minor in
    let second : List ℕ = first ++ (32 ∷ t.digits) in
    let third : List ℕ = second ++ print_reason t.reason in
    let fourth : List ℕ = third ++ print_end t.line_end in
    let same : length (print_response t) ≡ length (fourth ++ print_section t.fields t.last) = refl in
    omega (
      arith,
      same,
      length-append fourth (print_section t.fields t.last),
      length-append third (print_end t.line_end),
      length-append second (print_reason t.reason),
      length-append first (32 ∷ t.digits),
    )
