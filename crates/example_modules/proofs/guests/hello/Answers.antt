use Rattle.example_modules.proofs.guests.hello.Goals as goal

pub guest-requires : goal.guest-requires
guest-requires c = c.in_ok-imports.ensures
