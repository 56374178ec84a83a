-- The replies on a body are those of the definitions.
use Rattle.std.specs.Prelude.{◌≡◌, ℕ, Bool, true, false, ◌&&◌, ◌==◌, List, Option, Some, None, is_some, option_map, option_and_then, refl, if◌then◌else◌}
use Rattle.std.specs.Option.{option_map_or}
use Rattle.std.proofs.Common.{sym, ap, ◌∙◌}
use Rattle.std.proofs.lemmas.Bool.{false≢true}
use Rattle.std.proofs.lemmas.Option.{same_Some, none-some}
use Rattle.cache_types.specs.declared.entries.Entry.{Entry}
use Rattle.cache_types.specs.Objects.{Insertion, insertion_at, Renewal, last_renewal}
use Rattle.cache_types.specs.Answer.{writable, is_under_way, write_reply, finish_reply, read_reply}
use Rattle.cache_objects.specs.declared.standing.Standing.{Standing}
use Rattle.cache_objects.specs.Standings.{ObjectMap, standing_at}
use Rattle.cache_core.specs.Knows.{renewer, standing_of, IsHeld}
use Rattle.cache_core.specs.Object.{Object, fate_of, object_by, object_at, Holds, Each}
use Rattle.cache_core.specs.Writes.{writable_by, writable_at, write_by, finish_by, read_by}
use Rattle.cache_core.proofs.Renewing.{terms_stand}

-- what is held of an object that an entry made
made_case : (past : List Entry) (objects : ObjectMap) (o : ℕ) (i : Option Insertion) (r : Option Renewal) (s : Standing) → is_some i ≡ true → (is_some i ≡ true → is_some r ≡ true) → Holds (IsHeld objects past o) (object_by i r (fate_of past o)) → standing_at objects o ≡ Some s → option_map (standing_of (renewer past o)) (object_by i r (fate_of past o)) ≡ Some s
made_case past objects o None r s some stand held at = absurd (false≢true some)
made_case past objects o (Some m) None s some stand held at = absurd (false≢true (stand some))
made_case past objects o (Some m) (Some r) s some stand held at = sym held ∙ at

pub standing_made : (past : List Entry) (objects : ObjectMap) (o : ℕ) (s : Standing) → is_some (insertion_at past o) ≡ true → Each (IsHeld objects past) past → standing_at objects o ≡ Some s → option_map (standing_of (renewer past o)) (object_at past o) ≡ Some s
standing_made past objects o s some held at = made_case past objects o (insertion_at past o) (last_renewal past o) s some (terms_stand past o) (held o) at

writable_case : (past : List Entry) (guest o : ℕ) (x : Option Object) (s : Standing) → option_map (standing_of (renewer past o)) x ≡ Some s → writable_by guest s ≡ option_and_then (λ (y : Object). writable_by guest (standing_of (renewer past o) y)) x
writable_case past guest o None s is = absurd (none-some s is)
writable_case past guest o (Some x) s is = ap (writable_by guest) (sym (same_Some (standing_of (renewer past o) x) s is))

-- the guest's own object that is held
pub writable_held : (past : List Entry) (objects : ObjectMap) (guest o : ℕ) (s : Standing) → is_some (insertion_at past o) ≡ true → Each (IsHeld objects past) past → standing_at objects o ≡ Some s → writable_by guest s ≡ writable_at past guest o
writable_held past objects guest o s some held at = writable_case past guest o (object_at past o) s (standing_made past objects o s some held at)

nothing_case : (past : List Entry) (guest o : ℕ) (i : Option Insertion) (r : Option Renewal) → is_some i ≡ false → None ≡ option_and_then (λ (y : Object). writable_by guest (standing_of (renewer past o) y)) (object_by i r (fate_of past o))
nothing_case past guest o None r none = refl
nothing_case past guest o (Some m) r none = absurd (false≢true (sym none))

-- what no entry made isn't writable
pub nothing_writable : (past : List Entry) (guest o : ℕ) → is_some (insertion_at past o) ≡ false → None ≡ writable_at past guest o
nothing_writable past guest o none = nothing_case past guest o (insertion_at past o) (last_renewal past o) none

-- the definition's insertion and what is held of the object go together
reply_case : {X : Type 0} (past : List Entry) (guest o : ℕ) (i : Option Insertion) (r : Option Renewal) (plain : Option Insertion → X) (fast : Option Standing → X) → (is_some i ≡ true → is_some r ≡ true) → plain None ≡ fast None → ((m : Insertion) (y : Renewal) → plain (Some m) ≡ fast (Some (standing_of (renewer past o) (record { made = m; renewal = y; fate = fate_of past o }))))
    → fast (option_and_then (λ (y : Object). writable_by guest (standing_of (renewer past o) y)) (object_by i r (fate_of past o))) ≡ plain (if option_map_or (λ (made : Insertion). made.guest == guest) i false && is_under_way past o then i else None)
reply_case past guest o None r plain fast stand none some = sym none
reply_case past guest o (Some m) None plain fast stand none some = absurd (false≢true (stand refl))
reply_case {X} past guest o (Some m) (Some y) plain fast stand none some = by (m.guest == guest && is_under_way past o)
  where
    by : (b : Bool) → fast (if b then Some (standing_of (renewer past o) (record { made = m; renewal = y; fate = fate_of past o })) else None) ≡ plain (if b then Some m else None)
    by true = sym (some m y)
    by false = sym none

pub write_is : (past : List Entry) (guest o : ℕ) (piece : List ℕ) → write_by piece (writable_at past guest o) ≡ write_reply past o piece (writable past guest o)
write_is past guest o piece = reply_case past guest o (insertion_at past o) (last_renewal past o) (write_reply past o piece) (write_by piece) (terms_stand past o) refl (λ m y. refl)

pub finish_is : (past : List Entry) (guest o : ℕ) → finish_by (writable_at past guest o) ≡ finish_reply past o (writable past guest o)
finish_is past guest o = reply_case past guest o (insertion_at past o) (last_renewal past o) (finish_reply past o) finish_by (terms_stand past o) refl (λ m y. refl)

pub abandon_is : (past : List Entry) (guest o : ℕ) → is_some (writable_at past guest o) ≡ is_some (writable past guest o)
abandon_is past guest o = reply_case past guest o (insertion_at past o) (last_renewal past o) is_some is_some (terms_stand past o) refl (λ m y. refl)

read_case : (past : List Entry) (o place most : ℕ) (i : Option Insertion) (r : Option Renewal) (s : Standing) → option_map (standing_of (renewer past o)) (object_by i r (fate_of past o)) ≡ Some s → read_by place most s ≡ read_reply past place most (Some o)
read_case past o place most None r s is = absurd (none-some s is)
read_case past o place most (Some m) None s is = absurd (none-some s is)
read_case past o place most (Some m) (Some y) s is = ap (read_by place most) (sym (same_Some (standing_of (renewer past o) (record { made = m; renewal = y; fate = fate_of past o })) s is))

-- the reply to a read of what is held
pub read_is : (past : List Entry) (objects : ObjectMap) (o place most : ℕ) (s : Standing) → is_some (insertion_at past o) ≡ true → Each (IsHeld objects past) past → standing_at objects o ≡ Some s → read_by place most s ≡ read_reply past place most (Some o)
read_is past objects o place most s some held at = read_case past o place most (insertion_at past o) (last_renewal past o) s (standing_made past objects o s some held at)
