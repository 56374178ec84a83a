-- Texts that are one request each, whole and with nothing behind it.
use Rattle.std.specs.Prelude.{List, [], ◌∷◌, ℕ}
use Rattle.http_front.specs.declared.heads.Incoming.{Incoming}
use Rattle.http_front.specs.Requests.{IsRequest}

-- some request has this text
abbrev pub IsRequestText : List ℕ → Type 0
IsRequestText text = (incoming : Incoming) × IsRequest text incoming

abbrev pub AreRequestTexts : List (List ℕ) → Type 0
AreRequestTexts [] = Unit {0}
AreRequestTexts (text ∷ texts) = IsRequestText text × AreRequestTexts texts

-- the texts are those of these requests
abbrev pub AreRequests : List (List ℕ) → List Incoming → Type 0
AreRequests [] [] = Unit {0}
AreRequests (text ∷ texts) (incoming ∷ requests) = IsRequest text incoming × AreRequests texts requests
AreRequests _ _ = ⊥
