-- Document 01, "Images": "in words, high byte first".
use Rattle.std.specs.Prelude.{ℕ, ◌+◌, ◌*◌, List, [], ◌∷◌}

-- a byte without a second is no word
unfoldable pub bytes_as_words : List ℕ → List ℕ
bytes_as_words [] = []
bytes_as_words (high ∷ []) = []
bytes_as_words (high ∷ low ∷ bytes) = (high * 256 + low) ∷ bytes_as_words bytes
