-- A drawing file as the lines of rows.
use Rattle.std.specs.Prelude.{ℕ, List, ◌++◌}
use Rattle.lists.specs.Lists.{each}
use Rattle.forms.specs.declared.LineKind.{LineKind}
use Rattle.forms.specs.declared.LineKind.TheVariants.{Class, Name, May, Node, Edge}
use Rattle.printing.specs.Written.{row_text}
use Rattle.writing.specs.declared.save.Rows.{Rows}

-- the lines of one kind
unfoldable pub rows_text : LineKind → (rows : List ℕ) → List ℕ
rows_text kind rows = each rows (row_text kind)

-- those of all kinds: "Keys come in this order"
unfoldable pub file_of_rows : (classes names permitted nodes edges : List ℕ) → List ℕ
file_of_rows classes names permitted nodes edges =
    rows_text Class classes ++ rows_text Name names ++ rows_text May permitted ++ rows_text Node nodes ++ rows_text Edge edges

abbrev pub file_of : Rows → List ℕ
file_of r = file_of_rows r.classes.now r.names.now r.permitted.now r.nodes.now r.edges.now
