-- One more entry of a legal history.
use Rattle.std.specs.Prelude.{◌≡◌, ℕ, ◌+◌, ◌-◌, ◌<◌, ◌≤◌, true, false, List, [], ◌∷◌, ◌++◌, length, refl}
use Rattle.std.proofs.Common.{arith, sym, subst, length-append}
use Rattle.std.proofs.lemmas.List.{reverse-append}
use Rattle.cache_types.specs.declared.calls.CacheCall.{CacheCall}
use Rattle.cache_types.specs.declared.calls.CacheCall.TheVariants.{Begin, End}
use Rattle.cache_types.specs.declared.entries.Entry.{Entry}
use Rattle.cache_types.specs.Entries.{newest_first, is_begin, is_end}
use Rattle.cache_types.specs.Legal.{IsNext}
use Rattle.cache_types.specs.Step.{live_guests}
use Rattle.cache_types.proofs.Following.{legal-push}
use Rattle.cache_log.specs.Kept.{IsKept, HasRoom}
use Rattle.cache_log.proofs.Living.{live-after-begin, live-after-end, live-after-other}

pub end-not-begin : (call : CacheCall) → is_end call ≡ true → is_begin call ≡ false
end-not-begin Begin end = cc
end-not-begin _ end = refl

pub begin-not-end : (call : CacheCall) → is_begin call ≡ true → is_end call ≡ false
begin-not-end End begin = cc
begin-not-end _ begin = refl

-- a guest that ends was counted
pub one-live : (entries : List Entry) (live room : ℕ) (e : Entry) → IsKept entries live room → IsNext (newest_first entries) e → is_end e.call ≡ true → 1 ≤ live
one-live entries live room e kept next end =
    let fewer = live-after-end (newest_first entries) e (next, kept.legal) end (end-not-begin e.call end) in
    let counted = kept.counted in omega (arith, fewer, counted)

pub room-by : (entries : List Entry) (live room : ℕ) (call : CacheCall) → length entries + live ≤ room → (is_end call ≡ true → 1 ≤ live) → HasRoom entries live room call → length entries < room
room-by entries live room Begin kept ends has = omega (arith, has)
room-by entries live room End kept ends has = omega (arith, ends refl)
room-by entries live room _ kept ends has = omega (arith, has)

-- there is room for the entry
pub room-for-entry : (entries : List Entry) (live room : ℕ) (e : Entry) → IsKept entries live room → IsNext (newest_first entries) e → HasRoom entries live room e.call → length entries < room
room-for-entry entries live room e kept next has = room-by entries live room e.call kept.room_for_ends (one-live entries live room e kept next) has

-- what is kept when the live guests after the entry are so many
pub kept-push : (entries : List Entry) (live after room : ℕ) (e : Entry) → IsKept entries live room → IsNext (newest_first entries) e → length (live_guests (e ∷ newest_first entries)) ≡ after → length entries + 1 + after ≤ room → IsKept (entries ++ e ∷ []) after room
kept-push entries live after room e kept next counted room_left = record {
  legal = legal-push entries e kept.legal next;
  counted = subst (λ past. after ≡ length (live_guests past)) (sym (reverse-append entries (e ∷ []))) (sym counted);
  room_for_ends = omega (arith, length-append entries (e ∷ []));
}

pub room-of-begin : (entries : List Entry) (live room : ℕ) (call : CacheCall) → is_begin call ≡ true → HasRoom entries live room call → length entries + live + 2 ≤ room
room-of-begin entries live room Begin begin has = has
room-of-begin entries live room _ begin has = cc

pub room-of-other : (entries : List Entry) (live room : ℕ) (call : CacheCall) → is_begin call ≡ false → is_end call ≡ false → HasRoom entries live room call → length entries + live + 1 ≤ room
room-of-other entries live room Begin begin end has = cc
room-of-other entries live room End begin end has = cc
room-of-other entries live room _ begin end has = has

pub kept-begin : (entries : List Entry) (live room : ℕ) (e : Entry) → IsKept entries live room → IsNext (newest_first entries) e → HasRoom entries live room e.call → is_begin e.call ≡ true → IsKept (entries ++ e ∷ []) (live + 1) room
kept-begin entries live room e kept next has begin =
    let more = live-after-begin (newest_first entries) e (next, kept.legal) (begin-not-end e.call begin) begin in
    let counted = kept.counted in
    let left = room-of-begin entries live room e.call begin has in
    kept-push entries live (live + 1) room e kept next (omega (arith, more, counted)) (omega (arith, left))

pub kept-end : (entries : List Entry) (live room : ℕ) (e : Entry) → IsKept entries live room → IsNext (newest_first entries) e → is_end e.call ≡ true → IsKept (entries ++ e ∷ []) (live - 1) room
kept-end entries live room e kept next end =
    let fewer = live-after-end (newest_first entries) e (next, kept.legal) end (end-not-begin e.call end) in
    let counted = kept.counted in
    let left = kept.room_for_ends in
    kept-push entries live (live - 1) room e kept next (omega (arith, fewer, counted)) (omega (arith, fewer, counted, left))

pub kept-other : (entries : List Entry) (live room : ℕ) (e : Entry) → IsKept entries live room → IsNext (newest_first entries) e → HasRoom entries live room e.call → is_begin e.call ≡ false → is_end e.call ≡ false → IsKept (entries ++ e ∷ []) live room
kept-other entries live room e kept next has begin end =
    let same = live-after-other (newest_first entries) e end begin in
    let counted = kept.counted in
    let left = room-of-other entries live room e.call begin end has in
    kept-push entries live live room e kept next (omega (arith, same, counted)) (omega (arith, left))
