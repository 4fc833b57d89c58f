-- What the reader of drawing files promises: of every text the answer that document 01's definition gives, accepted or refused, with the line.
-- That what is accepted is stored as it should be stands in the type of what it makes.
use Rattle.std.specs.Prelude.{ℕ, ◌≡◌, List, Result}
use Rattle.model.specs.Files.DrawingFile.{Contents, read_drawing}
use Rattle.graph.specs.Packed.{unpack_scheme, unpack_instance}
use Rattle.model.specs.Answers.{outcome}
use Rattle.model.specs.declared.Refusal.{Refusal}
use Rattle.reading.specs.declared.whole.Whole.{Whole}

abbrev pub contents : Whole → Contents
contents w = record { scheme = unpack_scheme w.scheme; instance = unpack_instance w.instance }

-- the answer is the definition's
abbrev pub ReadDrawing : List ℕ → Result Whole Refusal → Type 0
ReadDrawing text r = outcome contents r ≡ read_drawing text
