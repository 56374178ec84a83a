-- Laws of the line of a call: what is read is spelled so, and is read again before words that are no options.
use Rattle.std.proofs.Common.{◌≡◌, ℕ, List, [], ◌∷◌, refl, sym, subst, None}
use Rattle.std.specs.Prelude.{codes}
use Rattle.cache_types.specs.declared.calls.CacheCall.{CacheCall}
use Rattle.cache_types.specs.declared.calls.CacheCall.TheVariants.{Begin, Lookup, TxLookup, Insert, TxInsert, TxUpdate, TxCancel, Close, Write, Finish, Abandon, Read, Purge, End}
use Rattle.script_lines.specs.declared.line.Named.{Named}
use Rattle.script_lines.specs.declared.line.Named.TheVariants as ref
use Rattle.call_lines.specs.declared.naming.Naming.{Naming}
use Rattle.script_lines.specs.declared.line.Line.{Line}
use Rattle.edge_words.proofs.Before.{IsLawfulBefore}
use Rattle.call_lines.specs.Lines.{line_words, IsReference, IsForm, IsCallForm}
use Rattle.call_lines.specs.Reading
use Rattle.call_lines.proofs.TermLaws.{IsBehind}
use Rattle.call_lines.proofs.Behind
use Rattle.call_lines.proofs.OneForm.{IsFormLaw, Takes, or_form, IsRead, form_read}

-- ---- the forms

begin_form : (naming : Naming) → IsFormLaw naming (codes "begin") Behind.no_words (Behind.Bare naming) (Reading.bare_in naming) (Reading.bare_line Begin)
begin_form naming = record { law = Behind.bare_law naming; makes = λ x fits. (refl, (fits, refl)); picks = λ words. refl; visible = refl }

end_form : (naming : Naming) → IsFormLaw naming (codes "end") Behind.no_words (Behind.Bare naming) (Reading.bare_in naming) (Reading.bare_line End)
end_form naming = record { law = Behind.bare_law naming; makes = λ x fits. (refl, (fits, refl)); picks = λ words. refl; visible = refl }

lookup_form : (naming : Naming) → IsFormLaw naming (codes "lookup") Behind.lookup_words Behind.Lookups Reading.lookup_in Reading.lookup_line
lookup_form naming = record { law = Behind.lookup_law; makes = λ x fits. (refl, (fits.0, fits.1, refl)); picks = λ words. refl; visible = refl }

tx_lookup_form : (naming : Naming) → IsFormLaw naming (codes "txlookup") Behind.lookup_words Behind.Lookups Reading.lookup_in Reading.tx_lookup_line
tx_lookup_form naming = record { law = Behind.lookup_law; makes = λ x fits. (refl, (fits.0, fits.1, refl)); picks = λ words. refl; visible = refl }

insert_form : (naming : Naming) → IsFormLaw naming (codes "insert") Behind.insert_words Behind.Inserts Reading.insert_in Reading.insert_line
insert_form naming = record { law = Behind.insert_law; makes = λ x fits. (refl, (fits.0, fits.1.0, fits.1.1, refl)); picks = λ words. refl; visible = refl }

purge_form : (naming : Naming) → IsFormLaw naming (codes "purge") Behind.purge_words Behind.Purges Reading.purge_in Reading.purge_line
purge_form naming = record { law = Behind.purge_law; makes = λ x fits. (refl, (fits.0, refl)); picks = λ words. refl; visible = refl }

tx_insert_form : (naming : Naming) → IsFormLaw naming (codes "txinsert") (Behind.tx_insert_words naming) (Behind.TxInserts naming) (Reading.tx_insert_in naming) Reading.tx_insert_line
tx_insert_form naming = record { law = Behind.tx_insert_law naming; makes = λ x fits. (refl, (fits.0, fits.1, refl)); picks = λ words. refl; visible = refl }

tx_update_form : (naming : Naming) → IsFormLaw naming (codes "txupdate") (Behind.tx_update_words naming) (Behind.TxUpdates naming) (Reading.tx_update_in naming) Reading.tx_update_line
tx_update_form naming = record { law = Behind.tx_update_law naming; makes = λ x fits. (refl, (fits.0, fits.1, refl)); picks = λ words. refl; visible = refl }

tx_cancel_form : (naming : Naming) → IsFormLaw naming (codes "txcancel") (Behind.reference_words naming) (IsReference naming) (Reading.named_in naming) Reading.tx_cancel_line
tx_cancel_form naming = record { law = Behind.reference_law naming IsBehind; makes = λ x fits. (refl, (fits, refl)); picks = λ words. refl; visible = refl }

close_form : (naming : Naming) → IsFormLaw naming (codes "close") (Behind.reference_words naming) (IsReference naming) (Reading.named_in naming) Reading.close_line
close_form naming = record { law = Behind.reference_law naming IsBehind; makes = λ x fits. (refl, (fits, refl)); picks = λ words. refl; visible = refl }

write_form : (naming : Naming) → IsFormLaw naming (codes "write") (Behind.write_words naming) (Behind.Writes naming) (Reading.write_in naming) Reading.write_line
write_form naming = record { law = Behind.write_law naming; makes = λ x fits. (refl, (fits.0, fits.1, refl)); picks = λ words. refl; visible = refl }

finish_form : (naming : Naming) → IsFormLaw naming (codes "finish") (Behind.reference_words naming) (IsReference naming) (Reading.named_in naming) Reading.finish_line
finish_form naming = record { law = Behind.reference_law naming IsBehind; makes = λ x fits. (refl, (fits, refl)); picks = λ words. refl; visible = refl }

abandon_form : (naming : Naming) → IsFormLaw naming (codes "abandon") (Behind.reference_words naming) (IsReference naming) (Reading.named_in naming) Reading.abandon_line
abandon_form naming = record { law = Behind.reference_law naming IsBehind; makes = λ x fits. (refl, (fits, refl)); picks = λ words. refl; visible = refl }

read_form : (naming : Naming) → IsFormLaw naming (codes "read") (Behind.read_words naming) (Behind.Readings naming) (Reading.read_in naming) Reading.read_line
read_form naming = record { law = Behind.read_law naming; makes = λ x fits. (refl, (fits.0, fits.1.0, fits.1.1.0, fits.1.1.1, refl)); picks = λ words. refl; visible = refl }

-- ---- all forms

no_form : (naming : Naming) (words : List (List ℕ)) → Takes naming words None
no_form naming words x e = cc e

unnamed_takes : (naming : Naming) (name : List ℕ) (words : List (List ℕ)) → Takes naming (name ∷ words) (Reading.unnamed_form naming name words)
unnamed_takes naming name words =
    or_form (lookup_form naming) name words _
    (or_form (tx_lookup_form naming) name words _
    (or_form (insert_form naming) name words _
    (or_form (purge_form naming) name words _
    (or_form (begin_form naming) name words _
    (or_form (end_form naming) name words _ (no_form naming (name ∷ words)))))))

transaction_takes : (naming : Naming) (name : List ℕ) (words : List (List ℕ)) → Takes naming (name ∷ words) (Reading.transaction_form naming name words)
transaction_takes naming name words =
    or_form (tx_insert_form naming) name words _
    (or_form (tx_update_form naming) name words _
    (or_form (tx_cancel_form naming) name words _
    (or_form (close_form naming) name words _ (unnamed_takes naming name words))))

any_takes : (naming : Naming) (name : List ℕ) (words : List (List ℕ)) → Takes naming (name ∷ words) (Reading.any_form naming name words)
any_takes naming name words =
    or_form (write_form naming) name words _
    (or_form (finish_form naming) name words _
    (or_form (abandon_form naming) name words _
    (or_form (read_form naming) name words _ (transaction_takes naming name words))))

pub form_takes : (naming : Naming) (words : List (List ℕ)) → Takes naming words (Reading.form_in naming words)
form_takes naming [] x e = cc e
form_takes naming (name ∷ words) x e = any_takes naming name words x e

abbrev pub line_with : CacheCall → Named → Line
line_with call named = record { call = call; named = named }

-- a line that names nothing, and one with 0 in the place of what it names
nothing_read : (naming : Naming) (call : CacheCall) (named : Named) → named ≡ ref.Nothing → IsRead naming (line_with call ref.Nothing) → IsRead naming (line_with call named)
nothing_read naming call named e read = subst (λ n. IsRead naming (line_with call n)) (sym e) read

zero_read : (naming : Naming) (call : ℕ → CacheCall) (n : ℕ) (named : Named) → n ≡ 0 → IsRead naming (line_with (call 0) named) → IsRead naming (line_with (call n) named)
zero_read naming call n named e read = subst (λ k. IsRead naming (line_with (call k) named)) (sym e) read

call_read : (naming : Naming) (call : CacheCall) (named : Named) → IsCallForm naming call named → IsRead naming (line_with call named)
call_read naming Begin named fits = nothing_read naming Begin named fits.1 (form_read (begin_form naming) tt fits.0)
call_read naming (Lookup key headers) named fits = nothing_read naming (Lookup key headers) named fits.2 (form_read (lookup_form naming) (key, headers) (fits.0, fits.1))
call_read naming (TxLookup key headers) named fits = nothing_read naming (TxLookup key headers) named fits.2 (form_read (tx_lookup_form naming) (key, headers) (fits.0, fits.1))
call_read naming (Insert key headers writing) named fits =
    nothing_read naming (Insert key headers writing) named fits.3 (form_read (insert_form naming) (key, (writing, headers)) (fits.0, (fits.1, fits.2)))
call_read naming (TxInsert tx writing) named fits = zero_read naming (λ n. TxInsert n writing) tx named fits.2 (form_read (tx_insert_form naming) (named, writing) (fits.0, fits.1))
call_read naming (TxUpdate tx terms) named fits = zero_read naming (λ n. TxUpdate n terms) tx named fits.2 (form_read (tx_update_form naming) (named, terms) (fits.0, fits.1))
call_read naming (TxCancel tx) named fits = zero_read naming (λ n. TxCancel n) tx named fits.1 (form_read (tx_cancel_form naming) named fits.0)
call_read naming (Close tx) named fits = zero_read naming (λ n. Close n) tx named fits.1 (form_read (close_form naming) named fits.0)
call_read naming (Write object piece) named fits = zero_read naming (λ n. Write n piece) object named fits.2 (form_read (write_form naming) (named, piece) (fits.0, fits.1))
call_read naming (Finish object) named fits = zero_read naming (λ n. Finish n) object named fits.1 (form_read (finish_form naming) named fits.0)
call_read naming (Abandon object) named fits = zero_read naming (λ n. Abandon n) object named fits.1 (form_read (abandon_form naming) named fits.0)
call_read naming (Read hit place most) named fits =
    zero_read naming (λ n. Read n place most) hit named fits.4 (form_read (read_form naming) (named, (place, most)) (fits.0, (fits.1, (fits.2, fits.3))))
call_read naming (Purge key soft) named fits = nothing_read naming (Purge key soft) named fits.1 (form_read (purge_form naming) (key, soft) (fits.0, tt))
call_read naming End named fits = nothing_read naming End named fits.1 (form_read (end_form naming) tt fits.0)

pub form_again : (naming : Naming) (line : Line) → IsForm naming line → IsRead naming line
form_again naming line fits = call_read naming line.call line.named fits

pub form_law : (naming : Naming) → IsLawfulBefore IsBehind (line_words naming) (IsForm naming) (Reading.form_in naming)
form_law naming = record {
  takes = form_takes naming;
  again = λ line rest fits after. (form_again naming line fits).again rest after;
  words = λ line fits. (form_again naming line fits).visible;
}
