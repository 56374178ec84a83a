-- A text that is written in parts is added to what the sink holds.
use Rattle.std.specs.Prelude.{◌≡◌, ◌+◌, ℕ, List, [], ◌∷◌, ◌++◌, length, take, Option, Some, Result, Ok, Err, refl}
use Rattle.std.proofs.Common.{arith, sym, subst, ap, ◌∙◌, append_assoc, length-append}
use Rattle.std.proofs.lemmas.List.{append-nil, take-append-le}
use Rattle.std.proofs.Math.Seq.{take-append-add}
use Rattle.edge_outside.specs.declared.fault.Failed.{Failed}
use Rattle.edge_outside.specs.Made.{Made}
use Rattle.edge_outside.specs.Sink.{SinkContent, Write, Adds, AddsPrefix, IsWrite}
use Rattle.edge_outside.proofs.Contents.{writes_shown}
use Rattle.edge_top.specs.declared.exit.Exit.{Exit}
use Rattle.edge_top.specs.declared.exit.Exit.TheVariants as exit
use Rattle.edge_top.specs.Does.{Ends, Writes}
use Rattle.edge_top.specs.Parts.{AfterPart, Parts, Added}

-- a text that is written at once is one in one part
last_part : (answer : Result (Unit {0}) Failed) (ended : Exit) → Ends answer ended → AfterPart answer [] ended (Parts [] [] ended)
last_part (Ok done) ended ends = (refl, ends)
last_part (Err failed) ended ends = (refl, ends)

pub one_part : (text : List ℕ) (writes : List Write) (ended : Exit) → Writes (Ok text) writes ended → Parts text writes ended
one_part text [] ended are = absurd are
one_part text (write ∷ []) ended are = ([], (sym are.0 ∙ sym (append-nil write.0), last_part write.1 ended are.1))
one_part text (write ∷ (other ∷ writes)) ended are = absurd are

-- a part and a prefix of the rest are a prefix
longer_prefix : (old between new part rest : List ℕ) → between ≡ old ++ part → AddsPrefix between rest new → AddsPrefix old (part ++ rest) new
longer_prefix old between new part rest is adds =
    (length part + adds.0, omega (arith, length-append part rest, adds.1), adds.2 ∙ ap (λ xs. xs ++ take adds.0 rest) is ∙ append_assoc old part (take adds.0 rest) ∙ ap (λ xs. old ++ xs) (sym (take-append-add part rest adds.0)))

-- a prefix of a part is one of the text
part_prefix : (old new part rest : List ℕ) → AddsPrefix old part new → AddsPrefix old (part ++ rest) new
part_prefix old new part rest adds =
    (adds.0, omega (arith, length-append part rest, adds.1), adds.2 ∙ ap (λ xs. old ++ xs) (sym (take-append-le adds.0 part rest adds.1)))

-- what was added behind a part was added with it
added_behind : (ended : Exit) (old between new part rest : List ℕ) → between ≡ old ++ part → Added ended rest between new → Added ended (part ++ rest) old new
added_behind exit.Ok old between new part rest is added = added ∙ ap (λ xs. xs ++ rest) is ∙ append_assoc old part rest
added_behind exit.WriteFault old between new part rest is added = longer_prefix old between new part rest is added
added_behind exit.Usage old between new part rest is added = absurd added
added_behind (exit.SettingsBad kind) old between new part rest is added = absurd added
added_behind (exit.ModuleBad fault) old between new part rest is added = absurd added
added_behind (exit.RunBad line) old between new part rest is added = absurd added
added_behind exit.ReadFault old between new part rest is added = absurd added
added_behind exit.OutOfMemory old between new part rest is added = absurd added

-- one part, and what follows it
part_added : (answer : Result (Unit {0}) Failed) (writes : List Write) (ended : Exit) (text part rest : List ℕ) (before between after : SinkContent) → text ≡ part ++ rest → Adds before part answer between → Made Adds between writes after → AfterPart answer writes ended (Parts rest writes ended) → (Parts rest writes ended → Added ended rest between.bytes after.bytes) → Added ended text before.bytes after.bytes
unfolding Made
part_added (Ok done) writes ended text part rest before between after is adds made more behind =
    subst (λ xs. Added ended xs before.bytes after.bytes) (sym is) (added_behind ended before.bytes between.bytes after.bytes part rest adds.ok (behind more))
part_added (Err failed) [] ended text part rest before between after is adds made end behind =
    subst (λ xs. Added ended xs before.bytes after.bytes) (sym is)
    (subst (λ e. Added e (part ++ rest) before.bytes after.bytes) (sym end.1)
    (subst (λ (x : SinkContent). AddsPrefix before.bytes (part ++ rest) x.bytes) (sym made) (part_prefix before.bytes between.bytes part rest adds.err)))
part_added (Err failed) (write ∷ writes) ended text part rest before between after is adds made end behind = cc (end.0)

pub parts_added : (text : List ℕ) (writes : List Write) (ended : Exit) (before after : SinkContent) → Parts text writes ended → Made Adds before writes after → Added ended text before.bytes after.bytes
unfolding Made
parts_added text [] ended before after parts made =
    subst (λ e. Added e text before.bytes after.bytes) (sym parts.1)
    (ap (λ (x : SinkContent). x.bytes) made ∙ sym (append-nil before.bytes) ∙ ap (λ xs. before.bytes ++ xs) (sym parts.0))
parts_added text (write ∷ writes) ended before after parts made =
    part_added write.1 writes ended text write.0 parts.0 before made.0 after parts.1.0 made.1.0 made.1.1 parts.1.1 (λ more. parts_added parts.0 writes ended made.0 after more made.1.1)

-- where the sink tells what it holds
pub text_shown : {K : Type 0} (writes : K → List ℕ → Result (Unit {0}) Failed → K → Type 0) (content : K → Option SinkContent) (before after : K) (text : List ℕ) (calls : List Write) (ended : Exit) (held : SinkContent) → Made (IsWrite writes content) before calls after → Parts text calls ended → content before ≡ Some held → (then : SinkContent) × ((content after ≡ Some then) × Added ended text held.bytes then.bytes)
text_shown writes content before after text calls ended held made parts is =
    let shown = writes_shown writes content before after calls held made is in
    (shown.0, (shown.1.1, parts_added text calls ended held shown.0 parts shown.1.0))
