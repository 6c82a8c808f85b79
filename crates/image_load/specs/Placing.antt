-- Where the bodies of an image go.
use Rattle.std.specs.Prelude.{ℕ, ◌+◌, ◌*◌, ◌≤◌, ◌<◌, ◌≡◌, true, List, [], ◌∷◌, get_or, length, T}
use Rattle.isa.specs.Images.{ImageEntry, contents, named_words}

-- each entry of kind k lies within so many words
abbrev pub Inside : ℕ → ℕ → List ImageEntry → Type 0
Inside k size [] = T true
Inside k size (e ∷ es) = (e.kind ≡ k → e.start + e.count ≤ size) × Inside k size es

-- the bodies of kind k can be put into so many words: the contents are whole, the entries lie within, the bodies are
-- the rest
pub record Placeable (k size : ℕ) (i : List ℕ) : Type 0 where
  pub some : 0 < length i
  pub whole : get_or i 0 0 * 5 + 1 ≤ length i
  pub inside : Inside k size (contents i)
  pub all : 1 + get_or i 0 0 * 5 + named_words (contents i) ≡ length i
