-- the goals that are left of `of`
use borrow.Author.Rules.{rules}
use Rattle.deletion.specs.Laws.Marked.{marks-none, marking-start, marking-word, marking-more}
use Rattle.deletion.proofs.Marked.of.Goals as goal

pub loop-n-init : goal.loop-n-init
loop-n-init c = search (marking-start, marks-none, rules)

pub bounds-words-n : goal.bounds-words-n
bounds-words-n c = search (marking-word, rules)

pub bounds-words-n-in-loop-n : goal.bounds-words-n-in-loop-n
bounds-words-n-in-loop-n c = search (marking-word, rules)

pub loop-n-preserved : goal.loop-n-preserved
loop-n-preserved c = search (marking-more, rules)
