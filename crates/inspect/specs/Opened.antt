-- What is open after a drawing file: what it makes; after one that is refused, what was open before.
use Rattle.std.specs.Prelude.{◌≡◌}
use Rattle.model.specs.Refusals.{Outcome, accepted, refused}
use Rattle.model.specs.Files.DrawingFile.{Contents}
use Rattle.reading.specs.Readers.{contents}
use Rattle.reading.specs.declared.whole.Whole.{Whole}

abbrev pub OpenAfter : (file : Outcome Contents) → (before after : Whole) → Type 0
OpenAfter (accepted f) before after = contents after ≡ f
OpenAfter (refused _) before after = after ≡ before
