-- Reading an entry of a journal on lists.
use Rattle.std.specs.Prelude.{ℕ, List, Option}
use Rattle.cache_types.specs.declared.calls.CacheCall.{CacheCall}
use Rattle.cache_types.specs.declared.replies.Reply.{Reply}
use Rattle.cache_types.specs.declared.entries.Entry.{Entry}
use Rattle.edge_words.specs.Reading.{one, both, number_in}
use Rattle.edge_words.specs.Choices.{made, first_then}
use Rattle.call_lines.specs.Reading.{call_in}
use Rattle.journal_reader.specs.Replies.{reply_in}
use Rattle.journal_reader.specs.Events.{after_sign}

-- number, guest and moment, and then call and reply
abbrev pub EntrySaid : Type 0
EntrySaid = (ℕ × (ℕ × ℕ)) × (CacheCall × (Unit {0} × Reply))

abbrev pub entry_of : EntrySaid → Entry
entry_of said = record {
  number = said.0.0;
  guest = said.0.1.0;
  moment = said.0.1.1;
  call = said.1.0;
  reply = said.1.1.1;
}

abbrev pub entry_said : List (List ℕ) → Option EntrySaid
entry_said = first_then (both (one number_in) (both (one number_in) (one number_in))) (first_then call_in (after_sign reply_in))

abbrev pub entry_in : List (List ℕ) → Option Entry
entry_in = made entry_of entry_said
