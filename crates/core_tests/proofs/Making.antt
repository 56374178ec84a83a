-- The calls of the rounds may be made.
use Rattle.std.specs.Prelude.{◌≡◌, ℕ, true, List, length, nat_le, refl}
use Rattle.std.proofs.Common.{sym, subst}
use Rattle.cache_types.specs.declared.calls.CacheCall.{CacheCall}
use Rattle.cache_types.specs.declared.calls.CacheCall.TheVariants.{Write, Read}
use Rattle.core_tests.specs.Asked.{MayMake}
use Rattle.core_tests.specs.Rounds.{insert_of, lookup_of, tx_lookup_of, purge_of}

pub may_insert : (n : ℕ) → MayMake (insert_of n)
may_insert n = record { limits = refl; no_begin = refl; no_end = refl }

pub may_look : (n : ℕ) → MayMake (lookup_of n)
may_look n = record { limits = refl; no_begin = refl; no_end = refl }

pub may_look_to_insert : (n : ℕ) → MayMake (tx_lookup_of n)
may_look_to_insert n = record { limits = refl; no_begin = refl; no_end = refl }

pub may_purge : (n : ℕ) → MayMake (purge_of n)
may_purge n = record { limits = refl; no_begin = refl; no_end = refl }

pub also : (call other : CacheCall) → call ≡ other → MayMake other → MayMake call
also call other is may = subst MayMake (sym is) may

pub may_write : (object : ℕ) (piece : List ℕ) → length piece ≡ 65536 → MayMake (Write object piece)
may_write object piece is = record { limits = subst (λ n. nat_le n 65536 ≡ true) (sym is) refl; no_begin = refl; no_end = refl }

pub may_read : (hit place : ℕ) → MayMake (Read hit place 65536)
may_read hit place = record { limits = refl; no_begin = refl; no_end = refl }
