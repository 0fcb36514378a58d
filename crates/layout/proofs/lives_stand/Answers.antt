-- The theorem about lives, for the contract of lives_stand.
use Rattle.layout.proofs.Standing.{lives_stand}
use Rattle.layout.proofs.Example.{example_lives}
use Rattle.layout.proofs.lives_stand.Goals as goal

pub returns : goal.returns
returns c = record { lives = lives_stand; example = example_lives }
