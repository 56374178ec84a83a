-- Runs of reads.
use Rattle.std.proofs.Common.{◌≡◌, ℕ, ◌<◌, List, [], ◌∷◌, ◌++◌, length, take, drop, sym, ◌∙◌, ap, subst, append_assoc, append-nil, take-append-drop, length-drop, arith, Result, Ok, Err, Option}
use Rattle.edge_outside.specs.declared.fault.Failed.{Failed}
use Rattle.edge_outside.specs.Made.{Made, made_none, made_one, made_then}
use Rattle.edge_outside.specs.Reads.{OneRead, Reads, none, more}
use Rattle.edge_outside.specs.Source.{SourceContent}

-- one read more
pub read_more : {S : Type 0} {Step : S → Result (List ℕ) Failed → S → Type 0} {Open : List ℕ → Type 0} (old : S) (had known all : List ℕ) (mid new : S)
    → Reads Step Open old had known mid → Open known → length known < length all → take (length known) all ≡ known
    → Step mid (Ok (drop (length known) all)) new → Reads Step Open old had all new
read_more {Step = Step} {Open = Open} old had known all mid new r o longer kept step =
    let whole : known ++ drop (length known) all ≡ all = ap (λ (t : List ℕ). t ++ drop (length known) all) (sym kept) ∙ take-append-drop (length known) all in
    subst (λ (t : List ℕ). Reads Step Open old had t new) whole
    (more known (drop (length known) all) mid new r o (omega (arith, longer, length-drop (length known) all)) step)

-- the same reads where other bytes stand before
pub reads_wider : {S : Type 0} {Step : S → Result (List ℕ) Failed → S → Type 0} {Open Wide : List ℕ → Type 0} (front : List ℕ) (old : S) (had known : List ℕ) (new : S)
    → ((b : List ℕ) → Open b → Wide (front ++ b)) → Reads Step Open old had known new → Reads Step Wide old (front ++ had) (front ++ known) new
reads_wider front old had _ _ wide none = none
reads_wider {Step = Step} {Wide = Wide} front old had _ _ wide (more known piece mid new r o some step) =
    subst (λ (t : List ℕ). Reads Step Wide old (front ++ had) t new) (append_assoc front known piece)
    (more (front ++ known) piece mid new (reads_wider front old had known mid wide r) (wide known o) some step)

-- reads and then reads
pub reads_both : {S : Type 0} {Step : S → Result (List ℕ) Failed → S → Type 0} {Open : List ℕ → Type 0} (old mid : S) (had known all : List ℕ) (new : S)
    → Reads Step Open old had known mid → Reads Step Open mid known all new → Reads Step Open old had all new
reads_both old mid had known _ _ r none = r
reads_both old mid had known _ _ r (more all piece at new s o some step) = more all piece at new (reads_both old mid had known all at r s) o some step

-- the bytes of the reads that gave some
abbrev pub pieces : List (ℕ × Result (List ℕ) Failed) → List ℕ
pieces [] = []
pieces ((room, Ok piece) ∷ calls) = piece ++ pieces calls
pieces ((room, Err failed) ∷ calls) = pieces calls

pieces_more : (calls : List (ℕ × Result (List ℕ) Failed)) (room : ℕ) (piece : List ℕ)
    → pieces (calls ++ (room, Ok piece) ∷ []) ≡ pieces calls ++ piece
pieces_more [] room piece = append-nil piece
pieces_more ((r, Ok p) ∷ calls) room piece =
    ap (λ (t : List ℕ). p ++ t) (pieces_more calls room piece) ∙ sym (append_assoc p (pieces calls) piece)
pieces_more ((r, Err e) ∷ calls) room piece = pieces_more calls room piece

-- a run of reads is a list of calls, and no others were made
pub reads_made : {S : Type 0} (reads : S → ℕ → Result (List ℕ) Failed → S → Type 0) (count : S → ℕ) (told : S → Option SourceContent) (Open : List ℕ → Type 0)
    (old : S) (had known : List ℕ) (new : S) → Reads (OneRead reads count told) Open old had known new
    → (calls : List (ℕ × Result (List ℕ) Failed)) × Made reads old calls new × (known ≡ had ++ pieces calls)
reads_made reads count told Open old had _ _ none = ([], made_none reads old, sym (append-nil had))
reads_made reads count told Open old had _ _ (more known piece mid new r o some step) =
    let x = reads_made reads count told Open old had known mid r in (
      x.0 ++ (step.room, Ok piece) ∷ [],
      made_then reads old x.0 mid ((step.room, Ok piece) ∷ []) new x.1 (made_one reads mid step.room (Ok piece) new step.call),
      ap (λ (t : List ℕ). t ++ piece) x.2 ∙ append_assoc had (pieces x.0) piece ∙ ap (λ (t : List ℕ). had ++ t) (sym (pieces_more x.0 step.room piece)),
    )
