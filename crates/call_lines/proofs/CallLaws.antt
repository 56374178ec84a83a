-- Laws of the call of a journal, which has the number of an entry where a line has what stands for it.
use Rattle.std.proofs.Common.{◌≡◌, ℕ, true, List, ◌++◌, refl, sym, ◌∙◌, ap, subst, Option, Some, option_map}
use Rattle.std.proofs.lemmas.Option.{cond_some}
use Rattle.cache_types.specs.declared.calls.CacheCall.{CacheCall}
use Rattle.cache_types.specs.declared.calls.CacheCall.TheVariants.{Begin, Lookup, TxLookup, Insert, TxInsert, TxUpdate, TxCancel, Close, Write, Finish, Abandon, Read, Purge, End}
use Rattle.cache_types.specs.Limits.{is_within_limits}
use Rattle.edge_words.specs.Words.{are_words}
use Rattle.edge_words.specs.Reading.{mapped, ◌>>=◌}
use Rattle.edge_words.proofs.Laws.{map_some, bind_some}
use Rattle.edge_words.proofs.Before.{IsLawfulBefore}
use Rattle.script_lines.specs.declared.line.Named.{Named}
use Rattle.script_lines.specs.declared.line.Named.TheVariants as ref
use Rattle.call_lines.specs.declared.naming.Naming.TheVariants.{Plain}
use Rattle.script_lines.specs.declared.line.Line.{Line}
use Rattle.script_lines.specs.Names.{with_name}
use Rattle.call_lines.specs.Lines.{number_of, call_of, line_of_call, plain_words, IsCall, line_words, IsReference, IsForm, IsCallForm}
use Rattle.call_lines.specs.Reading
use Rattle.call_lines.proofs.TermLaws.{IsBehind}
use Rattle.call_lines.proofs.FormLaws.{line_with, form_takes, form_again}

number_is : (named : Named) → IsReference Plain named → ref.Number (number_of named) ≡ named
number_is ref.Nothing fits = absurd fits
number_is (ref.Line n) fits = absurd fits
number_is (ref.Number n) fits = refl

nothing_back : (call : CacheCall) (named : Named) → named ≡ ref.Nothing → line_with call ref.Nothing ≡ line_with call named
nothing_back call named e = ap (line_with call) (sym e)

number_back : (call : ℕ → CacheCall) (n : ℕ) (named : Named) → IsReference Plain named → n ≡ 0 → line_with (call 0) (ref.Number (number_of named)) ≡ line_with (call n) named
number_back call n named fits e = ap (line_with (call 0)) (number_is named fits) ∙ ap (λ (k : ℕ). line_with (call k) named) (sym e)

-- the line that a call was put into
line_back : (call : CacheCall) (named : Named) → IsCallForm Plain call named → line_of_call (with_name (number_of named) call) ≡ line_with call named
line_back Begin named fits = nothing_back Begin named fits.1
line_back (Lookup key headers) named fits = nothing_back (Lookup key headers) named fits.2
line_back (TxLookup key headers) named fits = nothing_back (TxLookup key headers) named fits.2
line_back (Insert key headers writing) named fits = nothing_back (Insert key headers writing) named fits.3
line_back (TxInsert tx writing) named fits = number_back (λ n. TxInsert n writing) tx named fits.0 fits.2
line_back (TxUpdate tx terms) named fits = number_back (λ n. TxUpdate n terms) tx named fits.0 fits.2
line_back (TxCancel tx) named fits = number_back (λ n. TxCancel n) tx named fits.0 fits.1
line_back (Close tx) named fits = number_back (λ n. Close n) tx named fits.0 fits.1
line_back (Write object piece) named fits = number_back (λ n. Write n piece) object named fits.0 fits.2
line_back (Finish object) named fits = number_back (λ n. Finish n) object named fits.0 fits.1
line_back (Abandon object) named fits = number_back (λ n. Abandon n) object named fits.0 fits.1
line_back (Read hit place most) named fits = number_back (λ n. Read n place most) hit named fits.0 fits.4
line_back (Purge key soft) named fits = nothing_back (Purge key soft) named fits.1
line_back End named fits = nothing_back End named fits.1

call_again : (line : Line) → IsForm Plain line → line_of_call (call_of line) ≡ line
call_again line fits = line_back line.call line.named fits

-- the call that was put into a line
line_again : (call : CacheCall) → call_of (line_of_call call) ≡ call
line_again Begin = refl
line_again (Lookup key headers) = refl
line_again (TxLookup key headers) = refl
line_again (Insert key headers writing) = refl
line_again (Purge key soft) = refl
line_again End = refl
line_again _ = refl

-- both have the same words
same_words : (call : CacheCall) → line_words Plain (line_of_call call) ≡ plain_words call
same_words Begin = refl
same_words (Lookup key headers) = refl
same_words (TxLookup key headers) = refl
same_words (Insert key headers writing) = refl
same_words (Purge key soft) = refl
same_words End = refl
same_words _ = refl

call_takes : (words : List (List ℕ)) (x : CacheCall × List (List ℕ)) → Reading.call_in words ≡ Some x → (words ≡ plain_words x.0 ++ x.1) × IsCall x.0
call_takes words x e =
    let made = bind_some (mapped call_of (Reading.form_in Plain) words) Reading.within_limits x e in
    let line = map_some (λ (r : Line × List (List ℕ)). (call_of r.0, r.1)) (Reading.form_in Plain words) made.0 made.1 in
    let kept = cond_some _ _ _ made.2 in
    let found = form_takes Plain words line.0 line.1 in
    let same = call_again line.0.0 found.1 in
    let P : CacheCall × List (List ℕ) → Type 0 = λ p. is_within_limits p.0 ≡ true → (words ≡ plain_words p.0 ++ p.1) × IsCall p.0 in
    subst P (line.2 ∙ kept.1) (λ limits. (
      found.0 ∙ ap (λ (l : Line). line_words Plain l ++ line.0.1) (sym same) ∙ ap (λ (ws : List (List ℕ)). ws ++ line.0.1) (same_words (call_of line.0.0)),
      record { form = subst (IsForm Plain) (sym same) found.1; limits = limits },
    )) (subst (λ (p : CacheCall × List (List ℕ)). is_within_limits p.0 ≡ true) kept.1 kept.0)

pub call_law : IsLawfulBefore IsBehind plain_words IsCall Reading.call_in
call_law = record {
  takes = call_takes;
  again = λ call rest fits after.
      let read = form_again Plain (line_of_call call) fits.form in
      ap (λ (ws : List (List ℕ)). Reading.call_in (ws ++ rest)) (sym (same_words call))
      ∙ ap (λ (o : Option (Line × List (List ℕ))). option_map (λ (r : Line × List (List ℕ)). (call_of r.0, r.1)) o >>= Reading.within_limits) (read.again rest after)
      ∙ ap (λ (c : CacheCall). Reading.within_limits (c, rest)) (line_again call)
      ∙ rw fits.limits refl;
  words = λ call fits. subst (λ (ws : List (List ℕ)). are_words ws ≡ true) (same_words call) (form_again Plain (line_of_call call) fits.form).visible;
}
