use Rattle.std.proofs.Common.{rules}
use Rattle.std.proofs.lemmas.List.Sorted.{answers_always}
use Rattle.expansion.proofs.Neighbours.{below, rise_of_neighbours}
use Rattle.expansion.proofs.Points.rise.Goals as goal

pub returns : goal.returns
returns c = rise_of_neighbours _ _ (c.is_sorted_by.ensures.cases below (answers_always _ _ _ (λ f a r f' called. search rules)))
