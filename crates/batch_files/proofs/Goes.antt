-- What one more line leads to.
use Rattle.std.proofs.Common.{◌≡◌, ◌<◌, ℕ, false, List, [], ◌∷◌, ◌++◌, length, refl, sym, ◌∙◌, subst, None, Some, Err}
use Rattle.std.specs.Prelude.{bytes_eq, codes}
use Rattle.std.proofs.lemmas.Bool.{lt-ltb}
use Rattle.std.proofs.lemmas.Option.{same_Some}
use Rattle.edge_words.specs.declared.fault.LineFault.{LineFault}
use Rattle.edge_words.specs.declared.fault.LineFault.TheVariants.{Bad, OutOfMemory}
use Rattle.play_files.specs.Requests.{IsRequestText}
use Rattle.play_files.specs.Reading.{request_in}
use Rattle.batch_files.specs.declared.machine.Head.{Head}
use Rattle.batch_files.specs.Machine.{Progress, Asking, after_line, AreGood, LeadsTo}
use Rattle.play_files.specs.Whole.{TellsWhole}
use Rattle.play_files.proofs.Goes.{good_last}

-- a line that its words refuse leads nowhere
pub none_leads : (p : Progress) (line : List ℕ) → after_line p line ≡ None → (q : Progress) → after_line p line ≡ Some q → AreGood q → ⊥
none_leads p line none q e good = cc (sym none ∙ e)

pub request_leads : (head : Head) (texts : List (List ℕ)) (line text : List ℕ) → bytes_eq line (codes "end") ≡ false → length texts < 1000 → request_in line ≡ Some text → after_line (Asking head texts) line ≡ Some (Asking head (texts ++ text ∷ []))
request_leads head texts line text other room read = rw (other, lt-ltb (length texts) 1000 room, read) refl

-- nor does a request whose bytes are none to a good state
pub refused_leads : (head : Head) (texts : List (List ℕ)) (line text : List ℕ) → after_line (Asking head texts) line ≡ Some (Asking head (texts ++ text ∷ [])) → (IsRequestText text → ⊥)
    → (q : Progress) → after_line (Asking head texts) line ≡ Some q → AreGood q → ⊥
refused_leads head texts line text is bad q e good = bad (good_last texts text (subst AreGood (sym (same_Some _ _ (sym is ∙ e))) good))

-- what is told of a line that spells bytes which are no request
pub no_request_leads : (head : Head) (texts : List (List ℕ)) (line text : List ℕ) (fault : LineFault) → after_line (Asking head texts) line ≡ Some (Asking head (texts ++ text ∷ [])) → TellsWhole text (Err fault)
    → LeadsTo (Asking head texts) line (Err fault)
no_request_leads head texts line text Bad is bad = refused_leads head texts line text is bad
no_request_leads head texts line text OutOfMemory is short = tt
