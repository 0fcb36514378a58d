-- The theorem, for the contract of life_stands.
use Rattle.life.proofs.Second.{life_stands}
use Rattle.life.proofs.life_stands.Goals as goal

pub returns-clause-lives : goal.returns-clause-lives
returns-clause-lives c = life_stands
