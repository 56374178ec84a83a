-- It is decided whether a response's head stands at the front of some bytes.
use Rattle.std.proofs.Common.{◌≡◌, ◌⊎◌, inl, inr, ℕ, ◌+◌, ◌<◌, ◌≤◌, Bool, IsTrue, List, [], ◌∷◌, ◌++◌, length, All, refl, ◌∙◌, ap, subst, arith, length-append}
use Rattle.std.specs.Prelude.{Option, None, Some}
use Rattle.std.proofs.lemmas.List.Elements.{All-nil, All-cons}
use Rattle.std.specs.List.{flat_map}
use Rattle.std.specs.Char.{is_ascii_digit}
use Rattle.httparse.specs.Ascii.{colon, space}
use Rattle.httparse.specs.Grammar.{LineEnd, crlf, lf, print_end, print_blank, print_version, Field, print_field, IsField, AllPass, is_token_byte, is_value_byte, print_section, ResponseHead, print_reason, reason_phrase, print_response, IsResponseHead, ReadsResponse}
use Rattle.edge_link.proofs.Splits.{Decided, either, same_decided, both_decided, true_decided, less_decided, number_decided, text_decided, all_decided, split_decided, Seq, seq_decided, joined, One, Several, several_decided}

pass_decided : (test : ℕ → Bool) (bytes : List ℕ) → Decided (AllPass test bytes)
pass_decided test bytes = all_decided (λ b. IsTrue (test b)) (λ b. true_decided (test b)) bytes

-- ---- line ends, and empty lines

abbrev pub Any : {A : Type 0} → A → Type 0
Any a = Unit {0}

end_of : (bytes : List ℕ) → (bytes ≡ print_end crlf) ⊎ (bytes ≡ print_end lf) → One Any print_end bytes
end_of bytes (inl e) = record { item = crlf; is = tt; whole = e }
end_of bytes (inr e) = record { item = lf; is = tt; whole = e }

which_end : (bytes : List ℕ) (e : LineEnd) → bytes ≡ print_end e → (bytes ≡ print_end crlf) ⊎ (bytes ≡ print_end lf)
which_end bytes crlf e = inl e
which_end bytes lf e = inr e

or_decided : {P Q : Type 0} → Decided P → Decided Q → Decided (P ⊎ Q)
or_decided (inl p) d = inl (inl p)
or_decided (inr n) (inl q) = inl (inr q)
or_decided (inr n) (inr m) = inr (λ x. either x n m)

pub end_decided : (bytes : List ℕ) → Decided (One Any print_end bytes)
end_decided bytes = same_decided (end_of bytes) (λ o. which_end bytes o.item o.whole) (or_decided (text_decided bytes (print_end crlf)) (text_decided bytes (print_end lf)))

end_some : (e : LineEnd) → Any e → 0 < length (print_end e)
end_some crlf u = omega arith
end_some lf u = omega arith

all_any : {A : Type 0} (xs : List A) → All Any xs
all_any [] = All-nil Any
all_any (x ∷ xs) = All-cons Any x xs tt (all_any xs)

abbrev Blank : List ℕ → Type 0
Blank bytes = Several Any print_end bytes

blank_decided : (bytes : List ℕ) → Decided (Blank bytes)
blank_decided bytes = several_decided Any print_end end_some end_decided (length bytes + 1) bytes (omega arith)

-- ---- a version

abbrev Version : List ℕ → Type 0
Version bytes = One (λ minor. minor ≤ 1) print_version bytes

version_of : (bytes : List ℕ) → (bytes ≡ print_version 0) ⊎ (bytes ≡ print_version 1) → Version bytes
version_of bytes (inl e) = record { item = 0; is = omega arith; whole = e }
version_of bytes (inr e) = record { item = 1; is = omega arith; whole = e }

which_version : (bytes : List ℕ) (minor : ℕ) → minor ≤ 1 → bytes ≡ print_version minor → (bytes ≡ print_version 0) ⊎ (bytes ≡ print_version 1)
which_version bytes minor few e =
    either (number_decided minor 0) (λ z. inl (e ∙ ap print_version z)) (λ n. either (number_decided minor 1) (λ z. inr (e ∙ ap print_version z)) (λ m. absurd (omega (arith, few, n, m))))

version_decided : (bytes : List ℕ) → Decided (Version bytes)
version_decided bytes = same_decided (version_of bytes) (λ o. which_version bytes o.item o.is o.whole) (or_decided (text_decided bytes (print_version 0)) (text_decided bytes (print_version 1)))

-- ---- a byte and bytes that pass

pub record Behind (mark : ℕ) (P : List ℕ → Type 0) (bytes : List ℕ) : Type 0 where
  pub text : List ℕ
  pub passes : P text
  pub whole : bytes ≡ mark ∷ text

none_behind : (mark : ℕ) (P : List ℕ → Type 0) → Behind mark P [] → ⊥
none_behind mark P b = cc b.whole

pub behind_decided : (mark : ℕ) (P : List ℕ → Type 0) → ((text : List ℕ) → Decided (P text)) → (bytes : List ℕ) → Decided (Behind mark P bytes)
behind_decided mark P d [] = inr (none_behind mark P)
behind_decided mark P d (x ∷ xs) =
    same_decided {P = (x ≡ mark) × P xs}
    (λ e. record { text = xs; passes = e.1; whole = ap (λ y. y ∷ xs) e.0 })
    (λ b. (cc b.whole, let same : b.text ≡ xs = cc b.whole in subst P same b.passes))
    (both_decided (number_decided x mark) (d xs))

-- ---- field lines

abbrev Token : List ℕ → Type 0
Token bytes = (0 < length bytes) × AllPass is_token_byte bytes

abbrev Raw : List ℕ → Type 0
Raw bytes = Behind colon (AllPass is_value_byte) bytes

abbrev FieldText : List ℕ → Type 0
FieldText bytes = Seq (Seq Token Raw) (One Any print_end) bytes

field_of : (bytes : List ℕ) → FieldText bytes → One IsField print_field bytes
field_of bytes s =
    let named = s.holds.0 in
    let raw = named.holds.1 in
    record {
      item = record { name = named.first; raw = raw.text; end = s.holds.1.item };
      is = record { name = named.holds.0; raw = raw.passes };
      whole = s.whole ∙ joined s.first s.rest (named.first ++ (colon ∷ raw.text)) (print_end s.holds.1.item) (named.whole ∙ ap (λ ys. named.first ++ ys) raw.whole) s.holds.1.whole;
    }

of_field : (bytes : List ℕ) → One IsField print_field bytes → FieldText bytes
of_field bytes o =
    let f = o.item in
    record {
      first = f.name ++ (colon ∷ f.raw);
      rest = print_end f.end;
      whole = o.whole;
      holds = (
        record { first = f.name; rest = colon ∷ f.raw; whole = refl; holds = (o.is.name, record { text = f.raw; passes = o.is.raw; whole = refl }) },
        record { item = f.end; is = tt; whole = refl },
      );
    }

field_decided : (bytes : List ℕ) → Decided (One IsField print_field bytes)
field_decided bytes =
    same_decided (field_of bytes) (of_field bytes)
    (seq_decided (Seq Token Raw) (One Any print_end)
    (seq_decided Token Raw (λ a. both_decided (less_decided 0 (length a)) (pass_decided is_token_byte a)) (behind_decided colon (AllPass is_value_byte) (pass_decided is_value_byte)))
    end_decided bytes)

field_some : (f : Field) → IsField f → 0 < length (print_field f)
field_some f is = omega (arith, is.name.0, length-append (f.name ++ (colon ∷ f.raw)) (print_end f.end), length-append f.name (colon ∷ f.raw))

abbrev Section : List ℕ → Type 0
Section bytes = Seq (Several IsField print_field) (One Any print_end) bytes

section_decided : (bytes : List ℕ) → Decided (Section bytes)
section_decided bytes =
    seq_decided (Several IsField print_field) (One Any print_end)
    (λ a. several_decided IsField print_field field_some field_decided (length a + 1) a (omega arith)) end_decided bytes

-- ---- a status line

abbrev Digits : List ℕ → Type 0
Digits bytes = Behind space (λ text. (length text ≡ 3) × AllPass is_ascii_digit text) bytes

digits_decided : (bytes : List ℕ) → Decided (Digits bytes)
digits_decided bytes = behind_decided space (λ text. (length text ≡ 3) × AllPass is_ascii_digit text) (λ text. both_decided (number_decided (length text) 3) (pass_decided is_ascii_digit text)) bytes

abbrev Reason : List ℕ → Type 0
Reason bytes = One (λ (r : Option (List ℕ)). AllPass is_value_byte (reason_phrase r)) print_reason bytes

reason_of : (bytes : List ℕ) → (bytes ≡ []) ⊎ Behind space (AllPass is_value_byte) bytes → Reason bytes
reason_of bytes (inl e) = record { item = None; is = All-nil (λ b. IsTrue (is_value_byte b)); whole = e }
reason_of bytes (inr b) = record { item = Some b.text; is = b.passes; whole = b.whole }

which_reason : (bytes : List ℕ) (r : Option (List ℕ)) → AllPass is_value_byte (reason_phrase r) → bytes ≡ print_reason r → (bytes ≡ []) ⊎ Behind space (AllPass is_value_byte) bytes
which_reason bytes None is e = inl e
which_reason bytes (Some phrase) is e = inr (record { text = phrase; passes = is; whole = e })

reason_decided : (bytes : List ℕ) → Decided (Reason bytes)
reason_decided bytes =
    same_decided (reason_of bytes) (λ o. which_reason bytes o.item o.is o.whole)
    (or_decided (text_decided bytes []) (behind_decided space (AllPass is_value_byte) (pass_decided is_value_byte) bytes))

-- ---- a whole head

abbrev Start : List ℕ → Type 0
Start bytes = Seq Blank Version bytes

abbrev Status : List ℕ → Type 0
Status bytes = Seq Start Digits bytes

abbrev Line : List ℕ → Type 0
Line bytes = Seq (Seq Status Reason) (One Any print_end) bytes

abbrev HeadText : List ℕ → Type 0
HeadText bytes = Seq Line Section bytes

text_head : (bytes : List ℕ) → Decided (HeadText bytes)
text_head bytes =
    seq_decided Line Section
    (seq_decided (Seq Status Reason) (One Any print_end)
    (seq_decided Status Reason (seq_decided Start Digits (seq_decided Blank Version blank_decided version_decided) digits_decided) reason_decided)
    end_decided)
    section_decided bytes

head_of_text : (bytes : List ℕ) → HeadText bytes → One IsResponseHead print_response bytes
unfolding print_response
head_of_text bytes s =
    let line = s.holds.0 in
    let section = s.holds.1 in
    let phrase = line.holds.0 in
    let code = phrase.holds.0 in
    let start = code.holds.0 in
    let blank = start.holds.0 in
    let version = start.holds.1 in
    let digits = code.holds.1 in
    let reason = phrase.holds.1 in
    let end = line.holds.1 in
    let fields = section.holds.0 in
    let last = section.holds.1 in
    record {
      item = record { blank = blank.items; minor = version.item; digits = digits.text; reason = reason.item; line_end = end.item; fields = fields.items; last = last.item };
      is = record { minor = version.is; digits = digits.passes; reason = reason.is; fields = fields.each };
      whole = s.whole ∙ joined s.first s.rest _ _
          (line.whole ∙ joined line.first line.rest _ _
          (phrase.whole ∙ joined phrase.first phrase.rest _ _
          (code.whole ∙ joined code.first code.rest _ _ (start.whole ∙ joined start.first start.rest _ _ blank.whole version.whole) digits.whole)
          reason.whole)
          end.whole)
          (section.whole ∙ joined section.first section.rest _ _ fields.whole last.whole);
    }

text_of_head : (bytes : List ℕ) → One IsResponseHead print_response bytes → HeadText bytes
unfolding print_response
text_of_head bytes o =
    let h = o.item in
    let first : List ℕ = print_blank h.blank ++ print_version h.minor in
    let second : List ℕ = first ++ (space ∷ h.digits) in
    let third : List ℕ = second ++ print_reason h.reason in
    let fourth : List ℕ = third ++ print_end h.line_end in
    record {
      first = fourth;
      rest = print_section h.fields h.last;
      whole = o.whole;
      holds = (
        record {
          first = third;
          rest = print_end h.line_end;
          whole = refl;
          holds = (
            record {
              first = second;
              rest = print_reason h.reason;
              whole = refl;
              holds = (
                record {
                  first = first;
                  rest = space ∷ h.digits;
                  whole = refl;
                  holds = (
                    record {
                      first = print_blank h.blank;
                      rest = print_version h.minor;
                      whole = refl;
                      holds = (record { items = h.blank; each = all_any h.blank; whole = refl }, record { item = h.minor; is = o.is.minor; whole = refl });
                    },
                    record { text = h.digits; passes = o.is.digits; whole = refl },
                  );
                },
                record { item = h.reason; is = o.is.reason; whole = refl },
              );
            },
            record { item = h.line_end; is = tt; whole = refl },
          );
        },
        record {
          first = flat_map print_field h.fields;
          rest = print_end h.last;
          whole = refl;
          holds = (record { items = h.fields; each = o.is.fields; whole = refl }, record { item = h.last; is = tt; whole = refl });
        },
      );
    }

-- a head at the front of some bytes
pub record Reads (bytes : List ℕ) : Type 0 where
  pub tree : ResponseHead
  pub rest : List ℕ
  pub reads : ReadsResponse bytes tree rest

pub reads_decided : (bytes : List ℕ) → Decided (Reads bytes)
reads_decided bytes =
    same_decided
    (λ s. record { tree = s.holds.item; rest = s.rest; reads = (s.holds.is, s.whole ∙ ap (λ x. x ++ s.rest) s.holds.whole) })
    (λ r. record { first = print_response r.tree; rest = r.rest; whole = r.reads.1; holds = record { item = r.tree; is = r.reads.0; whole = refl } })
    (split_decided (λ a b. One IsResponseHead print_response a) (λ a b. same_decided (head_of_text a) (text_of_head a) (text_head a)) bytes)
