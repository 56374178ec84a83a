-- A head and then its body are a request.
use Rattle.std.proofs.Common.{◌≡◌, ◌⊎◌, ℕ, ◌≤◌, List, [], ◌++◌, length, refl, sym, ◌∙◌, ap, subst, append_assoc, inl, inr, None, Some, Result, Ok, Err, IfOk, Bool, true, false, if◌then◌else◌, nat_lt}
use Rattle.edge_outside.specs.declared.fault.Failed.{Failed}
use Rattle.edge_outside.specs.Reads.{Reads, ReadsUntil, failed}
use Rattle.edge_outside.proofs.ReadRuns.{reads_wider, reads_both}
use Rattle.httparse.specs.Grammar as grammar
use Rattle.http_text.specs.Fields.{most_body}
use Rattle.http_text.specs.Chunks.{IsChunked, GoesWrong, GoesOver}
use Rattle.http_text.specs.Bodies.{IsSized, NeverSo, IsTold, IsWrong, IsOver, BodyGives, ReadsBody}
use Rattle.http_text.specs.declared.fault.BodyFault.{BodyFault}
use Rattle.http_text.specs.declared.fault.BodyFault.TheVariants as body
use Rattle.http_front.specs.declared.heads.Head.{Head}
use Rattle.http_front.specs.declared.heads.Incoming.{Incoming}
use Rattle.http_front.specs.declared.fault.FrontFault.{FrontFault}
use Rattle.http_front.specs.declared.fault.FrontFault.TheVariants.{Bad, HeadTooLarge, TooLarge, Unsupported, Cut, ReadFault, OutOfMemory}
use Rattle.http_front.specs.Faults.{front_fault}
use Rattle.http_front.specs.Heads.{uri_of, head_fault, is_bad_head, is_unsupported, is_chunked, stated_length, request_of}
use Rattle.http_front.specs.Requests.{IsRequest, HasHeadFault, HasHeadAnd, HasNoBody, IsBody, IsWrongBody, IsLargeBody, IsUnfinished}
use Rattle.edge_body.specs.Heads.{is_uri, are_fields}
use Rattle.http_front.proofs.Kept.{uri_kept, are_kept}
use Rattle.http_front.specs.Gives.{ReadsHead, HeadGives, Knows, KnowsSome, RequestGives}

-- the uri and the headers of a head that was read keep the rules of heads
pub uri_rule : {S : Type 0} (Step : S → Result (List ℕ) Failed → S → Type 0) (old new : S) (head : Head) (ahead : List ℕ) → ReadsHead Step old head ahead new
    → is_uri (uri_of head) ≡ true
uri_rule Step old new head ahead x = subst (λ (h : Head). is_uri (uri_of h) ≡ true) (sym x.parts) (uri_kept x.tree x.is_head)

pub fields_rule : {S : Type 0} (Step : S → Result (List ℕ) Failed → S → Type 0) (old new : S) (head : Head) (ahead : List ℕ) → ReadsHead Step old head ahead new
    → are_fields head.fields ≡ true
fields_rule Step old new head ahead x = subst (λ (h : Head). are_fields h.fields ≡ true) (sym x.parts) (are_kept x.tree x.is_head x.few)

-- the reads of a head
pub head_reads : {S : Type 0} {Step : S → Result (List ℕ) Failed → S → Type 0} (old : S) (known : List ℕ) (new : S)
    → Reads Step grammar.HasNoRequest old [] known new → Reads Step IsUnfinished old [] known new
head_reads old known new r = reads_wider [] old [] known new (λ b o. inl o) r

-- an open body behind a head without fault
pub open_body : {S : Type 0} {Step : S → Result (List ℕ) Failed → S → Type 0} (old : S) (head : Head) (ahead : List ℕ) (mid : S) → (x : ReadsHead Step old head ahead mid)
    → head_fault head ≡ None → (b : List ℕ) → HasNoBody head b → IsUnfinished (grammar.print_request x.tree ++ b)
open_body old head ahead mid x good b o = inr (record {
  tree = x.tree;
  rest = b;
  reads = (x.is_head, refl);
  good = ap head_fault (sym x.parts) ∙ good;
  after = subst (λ h. HasNoBody h b) x.parts o;
})

-- the reads of a head and then of its body
pub all_reads : {S : Type 0} {Step : S → Result (List ℕ) Failed → S → Type 0} (old mid new : S) (head : Head) (ahead known : List ℕ) → (x : ReadsHead Step old head ahead mid)
    → head_fault head ≡ None → Reads Step (HasNoBody head) mid ahead known new → Reads Step IsUnfinished old [] (grammar.print_request x.tree ++ known) new
all_reads old mid new head ahead known x good r =
    reads_both old mid [] (grammar.print_request x.tree ++ ahead) (grammar.print_request x.tree ++ known) new
    (head_reads old _ mid x.reads) (reads_wider (grammar.print_request x.tree) mid ahead known new (open_body old head ahead mid x good) r)

behind : {S : Type 0} {Step : S → Result (List ℕ) Failed → S → Type 0} (old mid : S) (head : Head) (ahead known : List ℕ) (P : Head → List ℕ → Type 0) → (x : ReadsHead Step old head ahead mid)
    → head_fault head ≡ None → P head known → HasHeadAnd P (grammar.print_request x.tree ++ known)
behind old mid head ahead known P x good p = record {
  tree = x.tree;
  rest = known;
  reads = (x.is_head, refl);
  good = ap head_fault (sym x.parts) ∙ good;
  after = subst (λ h. P h known) x.parts p;
}

-- a head that has a fault
pub faulty_head : {S : Type 0} {Step : S → Result (List ℕ) Failed → S → Type 0} (old new : S) (head : Head) (ahead : List ℕ) (fault : FrontFault)
    → ReadsHead Step old head ahead new → head_fault head ≡ Some fault → KnowsSome Step IsUnfinished old (HasHeadFault fault) new
faulty_head old new head ahead fault x e =
    (grammar.print_request x.tree ++ ahead, inl (head_reads old _ new x.reads), (x.tree, ahead, (x.is_head, refl), ap head_fault (sym x.parts) ∙ e))

head_is : (head : Head) (b c d : Bool) (fault : FrontFault)
    → (if b then Some Bad else if c then Some Unsupported else if d then Some TooLarge else None) ≡ Some fault → (fault ≡ Bad) ⊎ ((fault ≡ Unsupported) ⊎ (fault ≡ TooLarge))
head_is head true c d fault e = inl (cc e)
head_is head false true d fault e = inr (inl (cc e))
head_is head false false true fault e = inr (inr (cc e))
head_is head false false false fault e = cc e

pub judge_fails : {S : Type 0} {Step : S → Result (List ℕ) Failed → S → Type 0} (old new : S) (head : Head) (ahead : List ℕ) (fault : FrontFault)
    → ReadsHead Step old head ahead new → head_fault head ≡ Some fault → RequestGives Step old (Err fault) new
judge_fails {Step = Step} old new head ahead fault x e =
    elim (head_is head (is_bad_head head) (is_unsupported head) (nat_lt most_body (stated_length head)) fault e) [
      | inl is ↦ subst (λ f. RequestGives Step old (Err f) new) (sym is)
          (let found = faulty_head old new head ahead Bad x (e ∙ ap (λ f. Some f) is) in (found.0, found.1, inr (inl found.2)))
      | inr (inl is) ↦ subst (λ f. RequestGives Step old (Err f) new) (sym is) (faulty_head old new head ahead Unsupported x (e ∙ ap (λ f. Some f) is))
      | inr (inr is) ↦ subst (λ f. RequestGives Step old (Err f) new) (sym is)
          (let found = faulty_head old new head ahead TooLarge x (e ∙ ap (λ f. Some f) is) in (found.0, found.1, inl found.2))
    ]

until : {S : Type 0} {Step : S → Result (List ℕ) Failed → S → Type 0} (old new : S) (known : List ℕ) (answer : Result (List ℕ) Failed)
    → ReadsUntil Step grammar.HasNoRequest old [] answer known new → ReadsUntil Step IsUnfinished old [] answer known new
until old new known answer x = record { mid = x.mid; before = head_reads old known x.mid x.before; is_open = inl x.is_open; last = x.last }

known_too : {S : Type 0} {Step : S → Result (List ℕ) Failed → S → Type 0} (old new : S) (known : List ℕ)
    → Knows Step grammar.HasNoRequest old known new → Knows Step IsUnfinished old known new
known_too old new known (inl r) = inl (head_reads old known new r)
known_too old new known (inr x) = inr (until old new known (Ok []) x)

pub head_fails : {S : Type 0} (Step : S → Result (List ℕ) Failed → S → Type 0) (old new : S) (ahead : List ℕ) (fault : FrontFault)
    → HeadGives Step old (Err fault) ahead new → RequestGives Step old (Err fault) new
head_fails Step old new ahead Bad x = (ahead, known_too old new ahead x.0, inl x.1)
head_fails Step old new ahead HeadTooLarge x = (ahead, known_too old new ahead x.0, x.1)
head_fails Step old new ahead TooLarge x = absurd x
head_fails Step old new ahead Unsupported x = absurd x
head_fails Step old new ahead Cut x = (ahead, until old new ahead (Ok []) x.0, inl (x.0.is_open, x.1))
head_fails Step old new ahead ReadFault x = (ahead, until old new ahead (Err failed) x, tt)
head_fails Step old new ahead OutOfMemory x = (x.0, known_too old new x.0 x.1, tt)

-- the body in chunks, and the one of a stated length, are the body that the head announces
abbrev GivesTold : {S : Type 0} → (S → Result (List ℕ) Failed → S → Type 0) → ℕ → S → List ℕ → Result (List ℕ) BodyFault → List ℕ → S → Bool → Type 0
GivesTold Step n old had r ahead new b = BodyGives Step (IsTold b n) (IsWrong b) (IsOver b) old had r ahead new

pub chunked_told : {S : Type 0} (Step : S → Result (List ℕ) Failed → S → Type 0) (head : Head) (old new : S) (had ahead : List ℕ) (r : Result (List ℕ) BodyFault)
    → is_chunked head ≡ true → BodyGives Step IsChunked GoesWrong GoesOver old had r ahead new
    → BodyGives Step (IsBody head) (IsWrongBody head) (IsLargeBody head) old had r ahead new
chunked_told Step head old new had ahead r e x = subst (GivesTold Step (stated_length head) old had r ahead new) (sym e) x

pub sized_told : {S : Type 0} (Step : S → Result (List ℕ) Failed → S → Type 0) (head : Head) (old new : S) (had ahead : List ℕ) (r : Result (List ℕ) BodyFault)
    → is_chunked head ≡ false → BodyGives Step (IsSized (stated_length head)) NeverSo NeverSo old had r ahead new
    → BodyGives Step (IsBody head) (IsWrongBody head) (IsLargeBody head) old had r ahead new
sized_told Step head old new had ahead r e x = subst (GivesTold Step (stated_length head) old had r ahead new) (sym e) x

-- a read behind the head that gave no more
ends : {S : Type 0} {Step : S → Result (List ℕ) Failed → S → Type 0} (old mid new : S) (head : Head) (ahead known : List ℕ) (answer : Result (List ℕ) Failed)
    → (x : ReadsHead Step old head ahead mid) → head_fault head ≡ None → ReadsUntil Step (HasNoBody head) mid ahead answer known new
    → ReadsUntil Step IsUnfinished old [] answer (grammar.print_request x.tree ++ known) new
ends old mid new head ahead known answer x good y = record {
  mid = y.mid;
  before = all_reads old mid y.mid head ahead known x good y.before;
  is_open = open_body old head ahead mid x good known y.is_open;
  last = y.last;
}

pub body_fails : {S : Type 0} {Step : S → Result (List ℕ) Failed → S → Type 0} (old mid new : S) (head : Head) (ahead left : List ℕ) (fault : BodyFault) → ReadsHead Step old head ahead mid
    → head_fault head ≡ None → BodyGives Step (IsBody head) (IsWrongBody head) (IsLargeBody head) mid ahead (Err fault) left new
    → RequestGives Step old (Err (front_fault fault)) new
body_fails old mid new head ahead left body.Bad x good y =
    (_, inl (all_reads old mid new head ahead y.0 x good y.1), inr (inr (behind old mid head ahead y.0 IsWrongBody x good y.2)))
body_fails old mid new head ahead left body.TooLarge x good y =
    (_, inl (all_reads old mid new head ahead y.0 x good y.1), inr (behind old mid head ahead y.0 IsLargeBody x good y.2))
body_fails old mid new head ahead left body.Ended x good y =
    (_, ends old mid new head ahead y.0 (Ok []) x good y.1, inr (behind old mid head ahead y.0 HasNoBody x good y.1.is_open))
body_fails old mid new head ahead left body.Failed x good y = (_, ends old mid new head ahead y.0 (Err failed) x good y.1, tt)
body_fails old mid new head ahead left body.OutOfMemory x good y = (_, inl (all_reads old mid new head ahead y.0 x good y.1), tt)

pub request_made : {S : Type 0} {Step : S → Result (List ℕ) Failed → S → Type 0} (old mid new : S) (head : Head) (ahead left bytes : List ℕ) (i : Incoming)
    → ReadsHead Step old head ahead mid → head_fault head ≡ None → ReadsBody Step (IsBody head) mid ahead bytes left new
    → i.head ≡ request_of head → i.body ≡ bytes → RequestGives Step old (Ok i) new
request_made {Step = Step} old mid new head ahead left bytes i x good y head_is body_is = (
  grammar.print_request x.tree ++ y.text,
  left,
  record {
    tree = x.tree;
    is_head = x.is_head;
    few = x.few;
    short = x.short;
    good = ap head_fault (sym x.parts) ∙ good;
    head_is = head_is ∙ ap request_of x.parts;
    body_text = y.text;
    body = subst (λ h. IsBody h y.text i.body) x.parts (subst (λ (b : List ℕ). IsBody head y.text b) (sym body_is) y.is_body);
    fits = subst (λ (b : List ℕ). length b ≤ most_body) (sym body_is) y.fits;
    text_is = refl;
  },
  subst (λ (t : List ℕ). Reads Step IsUnfinished old [] t new) (sym (append_assoc (grammar.print_request x.tree) y.text left))
      (all_reads old mid new head ahead (y.text ++ left) x good y.reads),
)

-- memory ran out behind a whole request
pub request_lost : {S : Type 0} {Step : S → Result (List ℕ) Failed → S → Type 0} (old mid new : S) (head : Head) (ahead left bytes : List ℕ)
    → ReadsHead Step old head ahead mid → head_fault head ≡ None → ReadsBody Step (IsBody head) mid ahead bytes left new
    → RequestGives Step old (Err OutOfMemory) new
request_lost old mid new head ahead left bytes x good y = (_, inl (all_reads old mid new head ahead (y.text ++ left) x good y.reads), tt)

pub ok_told : {S : Type 0} (Step : S → Result (List ℕ) Failed → S → Type 0) (old new : S) (r : Result Incoming FrontFault) → RequestGives Step old r new
    → IfOk r (λ i. (text dropped : List ℕ) × IsRequest text i × Reads Step IsUnfinished old [] (text ++ dropped) new)
ok_told Step old new (Ok i) x = x
ok_told Step old new (Err fault) x = tt
