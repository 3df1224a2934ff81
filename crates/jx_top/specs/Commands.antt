-- Commands, and the words that ask for them.
use Rattle.std.specs.Prelude.{◌≡◌, ◌≤◌, ◌==◌, ◌&&◌, ℕ, Bool, false, List, [], ◌∷◌, ◌++◌, Option, Some, None, codes, map, length, IsTrue, String, string_bytes, if◌then◌else◌}
use Rattle.std.specs.declared.alloc.Global.{Global}
use Rattle.jx_base.specs.ClassNames.{is_class_name}
use Rattle.jx_top.specs.declared.request.Request.{Request}
use Rattle.jx_top.specs.declared.request.Request.TheVariants as request

-- what is asked for: a run of the system of a file by so many workers, whether a file gives a system, or the class file that a text says
pub data Command : Type 0 where
  Run : (file : List ℕ) (workers : ℕ) → Command
  Check : (file : List ℕ) → Command
  Asm : (file : List ℕ) → Command

-- what a request asks for
abbrev pub command_of : Request → Command
command_of (request.Run file workers) = Run (string_bytes file) workers
command_of (request.Check file) = Check (string_bytes file)
command_of (request.Asm file) = Asm (string_bytes file)

-- the file of a class: the class's name and `.class`
pub record IsFileOf (file name : List ℕ) : Type 0 where
  pub joined : file ≡ name ++ codes ".class"
  pub class_name : IsTrue (is_class_name name)
  pub short : length file ≤ 255

-- the file of some class
abbrev pub IsClassFileName : List ℕ → Type 0
IsClassFileName file = (name : List ℕ) × IsFileOf file name

-- the name ends in `.class`
abbrev pub EndsInClass : List ℕ → Type 0
EndsInClass file = (before : List ℕ) × (file ≡ before ++ codes ".class")

-- the file of a system: of one class where its name ends so, else of a description
abbrev pub IsSystemName : List ℕ → Type 0
IsSystemName file = EndsInClass file → IsClassFileName file

-- the word is `--`, behind which no word is an option
abbrev pub is_dashes : List ℕ → Bool
is_dashes (first ∷ second ∷ []) = (first == 45) && (second == 45)
is_dashes _ = false

-- an option begins with `-` and is longer
abbrev pub is_option : List ℕ → Bool
is_option (first ∷ second ∷ rest) = first == 45
is_option _ = false

-- a word that is no option
abbrev pub plain_word : List ℕ → Option (List ℕ)
plain_word word = if is_option word then None else Some word

-- the one word beside `--`
abbrev pub beside_dashes : List ℕ → List ℕ → Option (List ℕ)
beside_dashes first second =
    if is_dashes first then Some second else if is_dashes second then plain_word first else None

-- the one place word, where there is one and no option
abbrev pub place_word : List (List ℕ) → Option (List ℕ)
place_word (word ∷ []) = plain_word word
place_word (first ∷ second ∷ []) = beside_dashes first second
place_word _ = None

-- the words are that verb and a file of 1 to 255 bytes
pub record AreVerbAndFile (verb : List ℕ) (words : List (List ℕ)) (file : List ℕ) : Type 0 where
  pub rest : List (List ℕ)
  pub words_are : words ≡ verb ∷ rest
  pub place : place_word rest ≡ Some file
  pub filled : 1 ≤ length file
  pub short : length file ≤ 255

-- the words are that verb and the file of a system
pub record AreVerbAndSystem (verb : List ℕ) (words : List (List ℕ)) (file : List ℕ) : Type 0 where
  pub words_are : AreVerbAndFile verb words file
  pub system : IsSystemName file

-- the words ask for this
abbrev pub AsksFor : List (List ℕ) → Command → Type 0
AsksFor words (Run file workers) = AreVerbAndSystem (codes "run") words file × (workers ≡ 1)
AsksFor words (Check file) = AreVerbAndSystem (codes "check") words file
AsksFor words (Asm file) = AreVerbAndFile (codes "asm") words file

-- the words ask for nothing that can be done
abbrev pub AsksForNothing : List (List ℕ) → Type 0
AsksForNothing words = (c : Command) → AsksFor words c → ⊥

-- the file that is fetched first
abbrev pub file_of : Command → List ℕ
file_of (Run file workers) = file
file_of (Check file) = file
file_of (Asm file) = file

-- the file is that of a system, and there is one worker
pub record IsSerialRun (file : List ℕ) (workers : ℕ) : Type 0 where
  pub system : IsSystemName file
  pub one_worker : workers ≡ 1

-- each file of a system is as the words would have it, and there is one worker; any file may be assembled
abbrev pub IsSerial : Command → Type 0
IsSerial (Run file workers) = IsSerialRun file workers
IsSerial (Check file) = IsSystemName file
IsSerial (Asm file) = Unit {0}

abbrev pub texts : List (String Global) → List (List ℕ)
texts words = map string_bytes words
