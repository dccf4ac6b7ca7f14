use Rattle.calc_book.proofs.tests.register.Goals as goal

pub returns : goal.returns
returns c = record {
  state = _;
  rest = λ setting. c.in_ok-register.ensures.ok (c.requires.state setting) (c.requires.rest setting);
  setting = c.requires.setting;
  completed = c.requires.completed;
}
