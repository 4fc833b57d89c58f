-- Where what follows an entry stands in the script that the entry was read from. Assumes nothing.
use Rattle.std.proofs.Common.{◌≡◌, ℕ, ◌+◌, ◌-◌, ◌≤◌, List, ◌++◌, length, take, drop, ap, sym, ◌∙◌, arith, drop-drop, length-append, length-drop, take_all}
use Rattle.std.proofs.Math.Seq.{drop-append_seam}
use Rattle.replay.specs.Entries.{EntryAt}

pub rest_at : (script : List ℕ) (at : ℕ) {text rest : List ℕ} → EntryAt (take (length script - at) (drop at script)) text rest
    → EntryAt (drop at script) text (drop (length script - length rest) script)
rest_at script at {text} {rest} first =
    let left : length (drop at script) ≡ length script - at = length-drop at script in
    let e : EntryAt (drop at script) text rest = rw (take_all (length script - at) (drop at script) (omega (arith, left))) at first in
    let whole : text ++ rest ≡ drop (at + e.line) script = e.parts ∙ drop-drop e.line at script in
    let long : length text + length rest ≡ length script - (at + e.line) = sym (length-append text rest) ∙ ap length whole ∙ length-drop (at + e.line) script in
    let room : e.line ≤ length script - at = rw (← left) e.inside in
    let taken = e.taken in
    let place : length script - length rest ≡ at + e.line + length text = omega arith in
    let same : drop (at + e.line + length text) script ≡ rest = sym (drop-drop (length text) (at + e.line) script) ∙ ap (drop (length text)) (sym whole) ∙ drop-append_seam text rest in
    rw (place, same) e
