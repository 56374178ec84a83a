-- What a reading found, in the words of the texts alone.
use Rattle.std.proofs.Common.{◌≡◌, ◌<◌, ◌≤◌, ℕ, true, false, List, [], ◌∷◌, ◌++◌, length, refl, sym, ap, subst, Some, Result, Ok, Err, arith, append-nil, lit≤, map, length-append}
use Rattle.std.specs.Prelude.{nat_lt, codes}
use Rattle.std.specs.Result.{IfOk, IfErr}
use Rattle.std.proofs.lemmas.Bool.Decides.{nat_tests}
use Rattle.std.proofs.lemmas.Option.{same_Some}
use Rattle.edge_words.specs.Words.{text_of}
use Rattle.edge_words.specs.Reading.{whole_lines, after_lines}
use Rattle.edge_words.proofs.Lines.{lines_takes}
use Rattle.run_files.specs.declared.run.Run.{Run}
use Rattle.line_reader.specs.declared.fault.RunFault.{RunFault}
use Rattle.line_reader.specs.declared.fault.RunFault.TheVariants as fault
use Rattle.run_files.specs.Run.{guest_lines, step_text, run_lines, run_text, IsRun, most_bytes}
use Rattle.run_files.specs.Machine.{Progress, Start, Begun, Block, Steps, Over, lines_to, IsProgress, finished, machine}
use Rattle.run_files.specs.Begins.{IsCause}
use Rattle.line_reader.specs.ByLines.{told_of, Tells, IsReadAs, Begins, IsBadLine}
use Rattle.line_reader.proofs.ByLines.{IsExact, bad_line, answer_found, answer_only}
use Rattle.run_files.proofs.Machines.{line_takes_on, guests_more, guest_lines_more, length_more, last_line}
use Rattle.run_files.proofs.Again.{run_goes, run_feed}

-- ---- each state has a finished file

begins_to : (p : Progress) → IsProgress p → Begins IsRun run_lines (lines_to p)
begins_to Start fits = record {
  value = record { guests = []; steps = [] };
  fits = record { few_guests = lit≤ tt; guests = tt; few_steps = lit≤ tt; steps = tt };
  rest = run_lines (record { guests = []; steps = [] });
  begins = refl;
}
begins_to Begun fits = record {
  value = record { guests = []; steps = [] };
  fits = record { few_guests = lit≤ tt; guests = tt; few_steps = lit≤ tt; steps = tt };
  rest = codes "steps" ∷ (codes "end" ∷ []);
  begins = refl;
}
begins_to (Block closed opened) fits = record {
  value = record { guests = closed ++ opened ∷ []; steps = [] };
  fits = record { few_guests = omega (arith, length_more closed opened); guests = guests_more closed opened fits.1 fits.2; few_steps = lit≤ tt; steps = tt };
  rest = codes "steps" ∷ (codes "end" ∷ []);
  begins = ap (λ (ls : List (List ℕ)). codes "edge-run 1" ∷ (ls ++ (codes "steps" ∷ (codes "end" ∷ [])))) (guest_lines_more closed opened);
}
begins_to (Steps guests steps) fits = record {
  value = record { guests = guests; steps = steps };
  fits = record { few_guests = fits.few_guests; guests = fits.all_guests; few_steps = fits.few_steps; steps = fits.all_steps };
  rest = codes "end" ∷ [];
  begins = last_line (codes "edge-run 1") (codes "end") (guest_lines guests) (codes "steps" ∷ map step_text steps);
}
begins_to (Over guests steps) fits = record {
  value = record { guests = guests; steps = steps };
  fits = record { few_guests = fits.few_guests; guests = fits.all_guests; few_steps = fits.few_steps; steps = fits.all_steps };
  rest = [];
  begins = sym (append-nil (lines_to (Over guests steps)));
}

-- ---- the machine reads exactly the run files

finished_over : (p : Progress) (rest : List ℕ) (run : Run) → finished p rest ≡ Some run → (p ≡ Over run.guests run.steps) × (rest ≡ [])
finished_over Start rest run e = cc e
finished_over Begun rest run e = cc e
finished_over (Block closed opened) rest run e = cc e
finished_over (Steps guests steps) rest run e = cc e
finished_over (Over guests steps) [] run e = (ap (λ (r : Run). Over r.guests r.steps) (same_Some _ _ e), refl)
finished_over (Over guests steps) (b ∷ rest) run e = cc e

ends : (p : Progress) (rest : List ℕ) (run : Run) → IsProgress p → finished p rest ≡ Some run → IsRun run × (run_lines run ≡ lines_to p) × (rest ≡ [])
ends p rest run stands e =
    let over = finished_over p rest run e in
    let P : Progress → Type 0 = IsProgress in
    let counted = subst P over.0 stands in (
      record { few_guests = counted.few_guests; guests = counted.all_guests; few_steps = counted.few_steps; steps = counted.all_steps },
      ap lines_to (sym over.0),
      over.1,
    )

exact : IsExact machine IsRun run_lines lines_to IsProgress
exact = record {
  starts = tt;
  at_start = refl;
  takes = line_takes_on;
  begins = begins_to;
  ends = ends;
  goes = λ run fits. (Over run.guests run.steps, run_goes run fits, refl);
  feed = run_feed;
}

-- ---- the answer

pub run_found : (bytes : List ℕ) (answer : Result Run RunFault) → Tells answer (told_of machine bytes) → IfOk answer (λ run. IsRun run × (bytes ≡ run_text run))
unfolding run_text
run_found bytes answer tells = answer_found machine IsRun run_lines lines_to IsProgress exact bytes answer tells

pub run_only : (bytes : List ℕ) (answer : Result Run RunFault) (run : Run) → Tells answer (told_of machine bytes) → IsRun run → bytes ≡ run_text run → IsReadAs run answer
unfolding run_text
run_only bytes answer run tells fits e = answer_only machine IsRun run_lines lines_to IsProgress exact bytes answer run tells fits e

-- a text has no more lines than bytes
few_lines : (lines : List (List ℕ)) → length lines ≤ length (text_of lines)
few_lines [] = omega arith
few_lines (line ∷ lines) =
    let more = length-append (line ++ 10 ∷ []) (text_of lines) in
    let one = length-append line (10 ∷ []) in
    let rest = few_lines lines in
    omega (arith, more, one, rest)

few_whole : (bytes : List ℕ) → length (whole_lines bytes) ≤ length bytes
few_whole bytes =
    let all = ap length (lines_takes bytes) in
    let more = length-append (text_of (whole_lines bytes)) (after_lines bytes) in
    omega (arith, all, more, few_lines (whole_lines bytes))

pub run_line : (bytes : List ℕ) (answer : Result Run RunFault) → Tells answer (told_of machine bytes) → length bytes ≤ most_bytes → IfErr answer (IsCause bytes)
run_line bytes (Ok run) tells small = tt
run_line bytes (Err (fault.Line n)) tells small =
    let fits : nat_lt most_bytes (length bytes) ≡ false = grind (arith, nat_tests) in
    let bad = bad_line machine IsRun run_lines lines_to IsProgress exact bytes tells.0 tells.1 in
    let same : n ≡ tells.0 = omega (arith, tells.2, bad.within, few_whole bytes, small) in
    let P : ℕ → Type 0 = IsBadLine IsRun run_lines bytes in
    rw fits (subst P (sym same) bad)
run_line bytes (Err fault.OutOfMemory) tells small = tt

pub too_large : (bytes : List ℕ) → most_bytes < length bytes → IsCause bytes (fault.Line 1)
too_large bytes large =
    let big : nat_lt most_bytes (length bytes) ≡ true = grind (arith, nat_tests) in
    rw big refl
