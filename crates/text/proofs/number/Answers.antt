-- `number` meets its contract: the digits that `digits_of` leaves, with the space put before them, are the number after a space,
-- which `word` then lays whole or not at all.
use Rattle.std.proofs.Common.{List, ℕ, ◌∙◌, ap, arith}
use Rattle.text.specs.Put.{put, past}
use Rattle.text.proofs.Digits.{spaced_one}
use Rattle.text.proofs.number.Goals as goal

pub returns : goal.returns
returns c =
    let d = c.digits_of-from in
    let new = spaced_one c.args.x d.new.space d.result (omega arith) d.ensures.within.0 d.ensures.within.1 d.ensures.digits in (
      c.word.ensures.0 ∙ ap (λ (l : List ℕ). put c.args.at l c.args.out.now) new,
      c.word.ensures.1 ∙ ap (λ (l : List ℕ). past c.args.at l c.args.out.now) new,
    )
