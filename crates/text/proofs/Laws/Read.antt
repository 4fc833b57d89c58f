-- What is read as a line, by the format.
use Rattle.std.specs.Prelude.{◌≡◌, true, false}
use Rattle.forms.specs.Forms.{of_drawing}
use Rattle.text.specs.Lines.{Tabled}
use Rattle.text.specs.declared.lines.Line.{Line as PackedLine}

abbrev pub OfDrawing : PackedLine → Type 0
OfDrawing l = Tabled l × (of_drawing l.kind ≡ true)

abbrev pub OfRule : PackedLine → Type 0
OfRule l = Tabled l × (of_drawing l.kind ≡ false)
