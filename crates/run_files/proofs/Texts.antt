-- The texts of lines and steps, read back.
use Rattle.std.proofs.Common.{◌≡◌, ◌≤◌, ℕ, true, false, List, [], ◌∷◌, ◌++◌, refl, sym, ◌∙◌, ap, subst, Option, None, Some, arith}
use Rattle.std.specs.Prelude.{bytes_eq, codes, decimal}
use Rattle.std.specs.Option.{option_map}
use Rattle.std.proofs.lemmas.Option.{cond_some}
use Rattle.edge_words.specs.Words.{line_of}
use Rattle.edge_words.specs.Reading.{one, both, whole, words_in, number_in, number_from_to}
use Rattle.edge_words.proofs.Numbers.{other_bytes}
use Rattle.edge_words.proofs.Lines.{words_of_line, words_takes, lacks, line_lacks_feed}
use Rattle.edge_words.proofs.Laws.{IsWhole, IsNumber, IsFromTo, FitBoth, bind_some, map_some, number_codec, number_from_to_codec, one_lawful, both_lawful, whole_lawful}
use Rattle.edge_words.proofs.Before.{whole_before}
use Rattle.script_lines.specs.declared.line.Line.{Line}
use Rattle.call_lines.specs.declared.naming.Naming.TheVariants.{Marked}
use Rattle.call_lines.specs.Lines.{line_words, keeps_limits, IsForm}
use Rattle.call_lines.specs.Reading.{form_in}
use Rattle.call_lines.proofs.TermLaws.{IsBehind}
use Rattle.call_lines.proofs.FormLaws.{form_law, form_again}
use Rattle.script_lines.specs.declared.step.Step.{Step}
use Rattle.run_files.specs.Run.{line_text, step_words, step_text, IsLineAt, IsStepOf}
use Rattle.run_files.specs.Reading.{line_in, kept_at, line_at, step_of, step_in, step_at}

-- ---- lines of a block

line_law : IsWhole (line_words Marked) (IsForm Marked) (whole (form_in Marked))
line_law = whole_before IsBehind (line_words Marked) (IsForm Marked) (form_in Marked) (form_law Marked) refl

pub line_takes : (place : ℕ) (text : List ℕ) (line : Line) → line_at place text ≡ Some line → (text ≡ line_text line) × IsLineAt place line
line_takes place text line e =
    let read = bind_some (line_in text) (kept_at place) line e in
    let kept = cond_some (keeps_limits place read.0) read.0 line read.2 in
    let found = line_law.takes (words_in text) read.0 read.1 in
    let P : Line → Type 0 = λ l. (text ≡ line_text l) × IsLineAt place l in
    subst P kept.1 (sym (words_takes text) ∙ ap line_of found.0, record { form = found.1; limits = kept.0 })

line_read : (line : Line) → IsForm Marked line → line_in (line_text line) ≡ Some line
line_read line fits =
    let read = form_again Marked line fits in
    ap (whole (form_in Marked)) (words_of_line (line_words Marked line) read.some read.visible) ∙ line_law.again line fits

pub line_again : (place : ℕ) (line : Line) → IsLineAt place line → line_at place (line_text line) ≡ Some line
line_again place line fits = rw (line_read line fits.form, fits.limits) refl

pub line_feed : (place : ℕ) (line : Line) → IsLineAt place line → lacks 10 (line_text line) ≡ true
line_feed place line fits = line_lacks_feed (line_words Marked line) (form_again Marked line fits.form).visible

-- a word that no form begins with is no line
pub no_line : (place : ℕ) (line : Line) (word : List ℕ) → IsLineAt place line → line_in word ≡ None → bytes_eq (line_text line) word ≡ false
no_line place line word fits none = other_bytes (line_text line) word (λ e. cc (sym (line_read line fits.form) ∙ ap line_in e ∙ none))

-- ---- steps

abbrev number_spell : ℕ → List (List ℕ)
number_spell n = decimal n ∷ []

abbrev step_spell : ℕ × ℕ → List (List ℕ)
step_spell said = number_spell said.0 ++ number_spell said.1

step_law : (guests : ℕ) → guests ≤ 1000 → IsWhole step_spell (FitBoth IsNumber (IsFromTo 1 guests)) (step_in guests)
step_law guests few =
    whole_lawful step_spell (FitBoth IsNumber (IsFromTo 1 guests)) (both (one number_in) (one (number_from_to 1 guests)))
    (both_lawful number_spell IsNumber (one number_in) number_spell (IsFromTo 1 guests) (one (number_from_to 1 guests))
    (one_lawful decimal IsNumber number_in number_codec)
    (one_lawful decimal (IsFromTo 1 guests) (number_from_to 1 guests) (number_from_to_codec 1 guests (omega arith))))

pub step_takes : (guests : ℕ) (text : List ℕ) (step : Step) → guests ≤ 1000 → step_at guests text ≡ Some step → (text ≡ step_text step) × IsStepOf guests step
step_takes guests text step few e =
    let said = map_some step_of (step_in guests (words_in text)) step e in
    let found = (step_law guests few).takes (words_in text) said.0 said.1 in
    let P : Step → Type 0 = λ s. (text ≡ step_text s) × IsStepOf guests s in
    subst P said.2 (sym (words_takes text) ∙ ap line_of found.0, found.1)

pub step_again : (guests : ℕ) (step : Step) → guests ≤ 1000 → IsStepOf guests step → step_at guests (step_text step) ≡ Some step
step_again guests step few fits =
    let law = step_law guests few in
    rw (words_of_line (step_words step) refl (law.words (step.reading, step.player) fits), law.again (step.reading, step.player) fits) refl

pub step_feed : (guests : ℕ) (step : Step) → guests ≤ 1000 → IsStepOf guests step → lacks 10 (step_text step) ≡ true
step_feed guests step few fits = line_lacks_feed (step_words step) ((step_law guests few).words (step.reading, step.player) fits)

-- one word is no step
one_word : (guests : ℕ) (word : List ℕ) (read : Option ℕ) → number_in word ≡ read → step_in guests (word ∷ []) ≡ None
one_word guests word None e = rw e refl
one_word guests word (Some n) e = rw e refl

pub no_step : (guests : ℕ) (step : Step) → guests ≤ 1000 → IsStepOf guests step → bytes_eq (step_text step) (codes "end") ≡ false
no_step guests step few fits =
    other_bytes (step_text step) (codes "end") (λ e.
    cc (sym (step_again guests step few fits) ∙ ap (step_at guests) e ∙ ap (option_map step_of) (one_word guests (codes "end") (number_in (codes "end")) refl)))
