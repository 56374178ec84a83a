-- Where a source tells its content, what was read is a front of it, and the request at its front is the one that is answered.
use Rattle.std.proofs.Common.{◌≡◌, ℕ, ◌<◌, List, [], ◌++◌, length, refl, sym, ◌∙◌, ap, subst, arith, append_assoc, append-nil, Option, None, Some, Result, Ok, Err, IfSome, IsSomeAnd, ◌∷◌, inl, inr}
use Rattle.edge_outside.specs.declared.fault.Failed.{Failed}
use Rattle.edge_outside.specs.Source.{SourceContent, Gives, GivesWhereTold}
use Rattle.edge_outside.specs.Reads.{OneRead, Reads, none, more}
use Rattle.http_front.specs.declared.heads.Incoming.{Incoming}
use Rattle.http_front.specs.declared.fault.FrontFault.{FrontFault}
use Rattle.http_front.specs.declared.fault.FrontFault.TheVariants.{Bad, HeadTooLarge, TooLarge, Unsupported, Cut, ReadFault, OutOfMemory}
use Rattle.http_front.specs.Requests.{IsRequest, IsUnfinished, Finds}
use Rattle.http_front.specs.Gives.{Knows, RequestGives}
use Rattle.http_front.proofs.Found.{one_request, no_bad, no_too_large, no_unsupported, no_large, no_unfinished}

-- what a content still had, after what was read of it
pub record Front (content : SourceContent) (had known : List ℕ) (told : Option SourceContent) : Type 0 where
  pub read : List ℕ
  pub left : SourceContent
  pub known_is : known ≡ had ++ read
  pub told_is : told ≡ Some left
  pub bytes_is : content.bytes ≡ read ++ left.bytes

pub record Given (P : SourceContent → Type 0) (told : Option SourceContent) : Type 0 where
  pub content : SourceContent
  pub told_is : told ≡ Some content
  pub holds : P content

some_and : (P : SourceContent → Type 0) (told : Option SourceContent) → IsSomeAnd told P → Given P told
some_and P (Some content) x = record { content = content; told_is = refl; holds = x }
some_and P None x = absurd x

one_given : (mid new : Option SourceContent) (content : SourceContent) (room : ℕ) (answer : Result (List ℕ) Failed) → mid ≡ Some content
    → GivesWhereTold mid room answer new → Given (Gives content room answer) new
one_given mid new content room answer e x =
    some_and (Gives content room answer) new (subst (λ (o : Option SourceContent). GivesWhereTold o room answer new) e x)

pub front_read : {S : Type 0} (reads : S → ℕ → Result (List ℕ) Failed → S → Type 0) (count : S → ℕ) (told : S → Option SourceContent) (Open : List ℕ → Type 0)
    (old : S) (had known : List ℕ) (new : S) (content : SourceContent) → told old ≡ Some content → Reads (OneRead reads count told) Open old had known new → Front content had known (told new)
front_read reads count told Open old had _ _ content e none =
    record { read = []; left = content; known_is = sym (append-nil had); told_is = e; bytes_is = refl }
front_read reads count told Open old had _ _ content e (more known piece mid new r o some step) =
    let x = front_read reads count told Open old had known mid content e r in
    let y = one_given (told mid) (told new) x.left step.room (Ok piece) x.told_is step.content in
    record {
      read = x.read ++ piece;
      left = y.content;
      known_is = ap (λ (t : List ℕ). t ++ piece) x.known_is ∙ append_assoc had x.read piece;
      told_is = y.told_is;
      bytes_is = x.bytes_is ∙ ap (λ (t : List ℕ). x.read ++ t) y.holds.bytes ∙ sym (append_assoc x.read piece y.content.bytes);
    }

-- the same where the end may have been met
front_known : {S : Type 0} (reads : S → ℕ → Result (List ℕ) Failed → S → Type 0) (count : S → ℕ) (told : S → Option SourceContent) (Open : List ℕ → Type 0)
    (old : S) (known : List ℕ) (new : S) (content : SourceContent) → told old ≡ Some content → Knows (OneRead reads count told) Open old known new
    → (mid : S) × Front content [] known (told mid)
front_known reads count told Open old known new content e (inl r) = (new, front_read reads count told Open old [] known new content e r)
front_known reads count told Open old known new content e (inr x) = (x.mid, front_read reads count told Open old [] known x.mid content e x.before)

no_length : (xs : List ℕ) → length xs ≡ 0 → xs ≡ []
no_length [] e = refl
no_length (x ∷ xs) e = absurd (omega (arith, e))

-- a read of nothing is the end
at_end : (content new : SourceContent) (room : ℕ) → 0 < room → Gives content room (Ok []) new → content.bytes ≡ []
at_end content new room some x = no_length content.bytes (omega (arith, x.count, x.some, some))

pub finds : {S : Type 0} (reads : S → ℕ → Result (List ℕ) Failed → S → Type 0) (count : S → ℕ) (told : S → Option SourceContent) (old new : S) (r : Result Incoming FrontFault)
    → RequestGives (OneRead reads count told) old r new → (content : SourceContent) → told old ≡ Some content
    → (text rest : List ℕ) (i : Incoming) → IsRequest text i → content.bytes ≡ text ++ rest → Finds r i
finds reads count told old new (Ok j) (s, dropped, x, run) content e text rest i y f =
    let front = front_read reads count told IsUnfinished old [] (s ++ dropped) new content e run in
    one_request content.bytes s text (dropped ++ front.left.bytes) rest j i x y
    (front.bytes_is ∙ ap (λ (t : List ℕ). t ++ front.left.bytes) (sym front.known_is) ∙ append_assoc s dropped front.left.bytes) f
finds reads count told old new (Err Bad) (known, run, why) content e text rest i y f =
    let front = (front_known reads count told IsUnfinished old known new content e run).1 in
    no_bad known front.left.bytes text rest i y (ap (λ (t : List ℕ). t ++ front.left.bytes) front.known_is ∙ sym front.bytes_is ∙ f) why
finds reads count told old new (Err HeadTooLarge) (known, run, why) content e text rest i y f =
    let front = (front_known reads count told IsUnfinished old known new content e run).1 in
    no_large known front.left.bytes text rest i y (ap (λ (t : List ℕ). t ++ front.left.bytes) front.known_is ∙ sym front.bytes_is ∙ f) why
finds reads count told old new (Err TooLarge) (known, run, why) content e text rest i y f =
    let front = (front_known reads count told IsUnfinished old known new content e run).1 in
    no_too_large known front.left.bytes text rest i y (ap (λ (t : List ℕ). t ++ front.left.bytes) front.known_is ∙ sym front.bytes_is ∙ f) why
finds reads count told old new (Err Unsupported) (known, run, why) content e text rest i y f =
    let front = (front_known reads count told IsUnfinished old known new content e run).1 in
    no_unsupported known front.left.bytes text rest i y (ap (λ (t : List ℕ). t ++ front.left.bytes) front.known_is ∙ sym front.bytes_is ∙ f) why
finds reads count told old new (Err Cut) (known, until, why) content e text rest i y f =
    let front = front_read reads count told IsUnfinished old [] known until.mid content e until.before in
    let last = one_given (told until.mid) (told new) front.left until.last.room (Ok []) front.told_is until.last.content in
    let all : content.bytes ≡ known = front.bytes_is ∙ ap (λ (t : List ℕ). front.read ++ t) (at_end front.left last.content until.last.room until.last.some last.holds)
    ∙ append-nil front.read ∙ sym front.known_is in
    no_unfinished known text rest i y (sym all ∙ f) until.is_open
finds reads count told old new (Err ReadFault) x content e text rest i y f = tt
finds reads count told old new (Err OutOfMemory) x content e text rest i y f = tt

if_some : (P : SourceContent → Type 0) (told : Option SourceContent) → ((content : SourceContent) → told ≡ Some content → P content) → IfSome told P
if_some P (Some content) x = x content refl
if_some P None x = tt

pub finds_where_told : {S : Type 0} (reads : S → ℕ → Result (List ℕ) Failed → S → Type 0) (count : S → ℕ) (told : S → Option SourceContent) (old new : S) (r : Result Incoming FrontFault)
    → RequestGives (OneRead reads count told) old r new
    → IfSome (told old) (λ content. (text rest : List ℕ) (i : Incoming) → IsRequest text i → content.bytes ≡ text ++ rest → Finds r i)
finds_where_told reads count told old new r x =
    if_some (λ content. (text rest : List ℕ) (i : Incoming) → IsRequest text i → content.bytes ≡ text ++ rest → Finds r i) (told old)
    (λ content e. finds reads count told old new r x content e)
