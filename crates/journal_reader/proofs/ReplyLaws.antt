-- Replies are read as they are spelled.
use Rattle.std.proofs.Common.{◌≡◌, ◌^◌, ℕ, true, List, [], ◌∷◌, ◌++◌, refl, sym, ◌∙◌, ap, Option, None, Some, arith, lit<}
use Rattle.std.specs.Prelude.{decimal, codes}
use Rattle.std.specs.Option.{option_map}
use Rattle.hex.specs.Hex.{IsBytes}
use Rattle.cache_types.specs.declared.replies.Hit.{Hit}
use Rattle.cache_types.specs.declared.replies.Reply.{Reply}
use Rattle.cache_types.specs.declared.replies.Reply.TheVariants as reply
use Rattle.edge_words.specs.Words.{are_words, hex_word}
use Rattle.edge_words.specs.Reading.{one, number_in, number_from_to, hex_in}
use Rattle.edge_words.specs.Choices.{made, if_any, if_any_words, number_or, number_or_word, FitOption}
use Rattle.edge_words.proofs.Laws.{IsLawful, IsWhole, IsNumber, IsFromTo, FitBoth, number_codec, number_from_to_codec, hex_codec, one_lawful, both_lawful, whole_lawful}
use Rattle.edge_words.proofs.ChoiceLaws.{RowsTake, made_row, alone_row, first_then_whole, if_any_whole, made_whole, by_name_whole, IsNumberBelow, number_or_codec, no_digits}
use Rattle.journal_writer.specs.Journal.{length_word, hit_words, reply_words}
use Rattle.journal_reader.specs.Readable.{IsHit, IsReply}
use Rattle.journal_reader.specs.Replies.{HitSaid, hit_of, hit_said, hit_in, got_of, got_said, bytes_said, reply_rows, reply_in}

-- ---- single words

abbrev pub number_words : ℕ → List (List ℕ)
number_words n = decimal n ∷ []

pub one_number : IsLawful number_words IsNumber (one number_in)
one_number = one_lawful decimal IsNumber number_in number_codec

abbrev pub hex_words : List ℕ → List (List ℕ)
hex_words bytes = hex_word bytes ∷ []

pub one_hex : IsLawful hex_words IsBytes (one hex_in)
one_hex = one_lawful hex_word IsBytes hex_in hex_codec

pub bytes_law : IsWhole hex_words IsBytes bytes_said
bytes_law = whole_lawful hex_words IsBytes (one hex_in) one_hex

abbrev length_words : Option ℕ → List (List ℕ)
length_words length = number_or_word (codes "?") length ∷ []

no_number : number_in (codes "?") ≡ None
no_number = no_digits (codes "?") refl

one_length : IsLawful length_words (IsNumberBelow (2 ^ 64)) (one (number_or (codes "?")))
one_length = one_lawful (number_or_word (codes "?")) (IsNumberBelow (2 ^ 64)) (number_or (codes "?")) (number_or_codec (codes "?") refl no_number)

-- ---- hits

abbrev said_words : HitSaid → List (List ℕ)
said_words said = number_words said.0 ++ (number_words said.1.0 ++ (number_words said.1.1.0 ++ (number_words said.1.1.1.0 ++ (length_words said.1.1.1.1.0 ++ hex_words said.1.1.1.1.1))))

abbrev FitSaid : HitSaid → Type 0
FitSaid = FitBoth IsNumber (FitBoth IsNumber (FitBoth IsNumber (FitBoth IsNumber (FitBoth (IsNumberBelow (2 ^ 64)) IsBytes))))

hit_said_law : IsWhole said_words FitSaid hit_said
hit_said_law =
    whole_lawful said_words FitSaid _
    (both_lawful _ _ _ _ _ _ one_number
    (both_lawful _ _ _ _ _ _ one_number
    (both_lawful _ _ _ _ _ _ one_number
    (both_lawful _ _ _ _ _ _ one_number
    (both_lawful _ _ _ _ _ _ one_length one_hex)))))

abbrev found_words : Hit → List (List ℕ)
found_words hit = hit_words (Some hit)

abbrev hit_back : Hit → HitSaid
hit_back hit = (hit.object, (hit.age, (hit.max_age, (hit.stale, (hit.length, hit.metadata)))))

-- the words of a length
length_same : (length : Option ℕ) → number_or_word (codes "?") length ≡ length_word length
length_same None = refl
length_same (Some n) = refl

hit_same : (said : HitSaid) → said_words said ≡ found_words (hit_of said)
hit_same said = ap (λ (w : List ℕ). decimal said.0 ∷ (decimal said.1.0 ∷ (decimal said.1.1.0 ∷ (decimal said.1.1.1.0 ∷ (w ∷ hex_words said.1.1.1.1.1))))) (length_same said.1.1.1.1.0)

hit_law : IsWhole found_words IsHit hit_in
hit_law = made_whole said_words FitSaid hit_said hit_of hit_back found_words IsHit hit_said_law (λ said fits. (hit_same said, fits)) (λ hit fits. (refl, hit_same (hit_back hit), fits))

-- ---- what a lookup got

abbrev got_words : ℕ × Option Hit → List (List ℕ)
got_words said = number_words said.0 ++ if_any_words found_words said.1

abbrev FitGot : ℕ × Option Hit → Type 0
FitGot = FitBoth (IsFromTo 0 255) (FitOption IsHit)

got_law : IsWhole got_words FitGot got_said
got_law =
    first_then_whole number_words (IsFromTo 0 255) (one (number_from_to 0 255)) (if_any_words found_words) (FitOption IsHit) (if_any hit_in)
    (one_lawful decimal (IsFromTo 0 255) (number_from_to 0 255) (number_from_to_codec 0 255 (lit< tt)))
    (if_any_whole found_words IsHit hit_in hit_law (λ hit. refl))

any_same : (hit : Option Hit) → if_any_words found_words hit ≡ hit_words hit
any_same None = refl
any_same (Some hit) = refl

got_same : (said : ℕ × Option Hit) → codes "got" ∷ got_words said ≡ reply_words (got_of said)
got_same said = ap (λ (ws : List (List ℕ)). codes "got" ∷ (decimal said.0 ∷ ws)) (any_same said.1)

-- ---- replies

rows_take : RowsTake reply_words IsReply reply_rows
rows_take = (
  alone_row (codes "begun") reply.Begun reply_words IsReply refl tt,
  (
    made_row (codes "got") got_words FitGot got_said got_of reply_words IsReply got_law (λ said fits. (got_same said, (omega arith, fits.1))),
    (
      alone_row (codes "made") reply.Made reply_words IsReply refl tt,
      (
        alone_row (codes "done") reply.Done reply_words IsReply refl tt,
        (
          alone_row (codes "refused") reply.Refused reply_words IsReply refl tt,
          (
            alone_row (codes "short") reply.Short reply_words IsReply refl tt,
            (
              alone_row (codes "toolong") reply.TooLong reply_words IsReply refl tt,
              (
                made_row (codes "bytes") hex_words IsBytes bytes_said reply.Bytes reply_words IsReply bytes_law (λ bytes fits. (refl, fits)),
                (
                  alone_row (codes "ended") reply.Ended reply_words IsReply refl tt,
                  (
                    alone_row (codes "failed") reply.Failed reply_words IsReply refl tt,
                    tt,
                  ),
                ),
              ),
            ),
          ),
        ),
      ),
    ),
  ),
)

-- a reply is read again from its words
abbrev IsReadAgain : Reply → Type 0
IsReadAgain r = (reply_in (reply_words r) ≡ Some r) × (are_words (reply_words r) ≡ true)

got_again : (bits : ℕ) (hit : Option Hit) → FitGot (bits, hit) → IsReadAgain (reply.Got bits hit)
got_again bits hit fits =
    let same = any_same hit in (
      ap (λ (ws : List (List ℕ)). made got_of got_said (decimal bits ∷ ws)) (sym same) ∙ ap (option_map got_of) (got_law.again (bits, hit) fits),
      ap (λ (ws : List (List ℕ)). are_words (decimal bits ∷ ws)) (sym same) ∙ got_law.words (bits, hit) fits,
    )

reply_again : (r : Reply) → IsReply r → IsReadAgain r
reply_again reply.Begun fits = (refl, refl)
reply_again (reply.Got bits hit) fits = got_again bits hit ((omega arith, omega arith), fits.1)
reply_again reply.NotYet fits = absurd fits
reply_again reply.Made fits = (refl, refl)
reply_again reply.Done fits = (refl, refl)
reply_again reply.Refused fits = (refl, refl)
reply_again reply.Short fits = (refl, refl)
reply_again reply.TooLong fits = (refl, refl)
reply_again (reply.Bytes bytes) fits = (ap (option_map reply.Bytes) (bytes_law.again bytes fits), bytes_law.words bytes fits)
reply_again reply.Ended fits = (refl, refl)
reply_again reply.Failed fits = (refl, refl)

pub reply_law : IsWhole reply_words IsReply reply_in
reply_law = by_name_whole reply_words IsReply reply_rows rows_take reply_again
