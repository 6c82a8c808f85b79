-- What a step, a run, and what is handed in between steps keep of a machine with memory m and page tables t: the types,
-- the ranges of documents 01 and 02, the size of the tables, and that each word of both is a word.
use Rattle.isa.specs.Machine.{table_words}
use Rattle.std.specs.Prelude.{ℕ, ◌<◌, ◌≡◌, true, List, [], ◌∷◌, length}
use Rattle.isa.specs.Machine.{Typed, Words, in_range}
use Rattle.isa.specs.Devices.{character_range}
use Rattle.isa.specs.DeviceInput.{Given}
use Rattle.isa.specs.declared.machine.State.{State}
use Rattle.isa.specs.declared.device.DeviceInput.{DeviceInput}
use Rattle.isa.specs.declared.device.DeviceInput.TheVariants.{Raise, Tick, Typed as TypedCharacter, ReadOut}

pub record Sound (s : State) (m t : List ℕ) : Type 0 where
  pub typed : Typed s
  pub range : in_range s ≡ true
  pub memory : Words m
  pub tables : Words t
  pub size : length t ≡ table_words

-- memory of j words and page tables of k
pub record Sized (j k : ℕ) (m t : List ℕ) : Type 0 where
  pub memory : length m ≡ j
  pub tables : length t ≡ k

-- a typed character is below 256; any level may be named
abbrev pub CharacterFits : DeviceInput → Type 0
CharacterFits (Raise l) = Unit
CharacterFits Tick = Unit
CharacterFits (TypedCharacter w) = w < character_range
CharacterFits ReadOut = Unit

-- each input of a list
abbrev pub EachInput : (DeviceInput → Type 0) → List Given → Type 0
EachInput Q [] = Unit
EachInput Q (g ∷ gs) = Q g.input × EachInput Q gs
