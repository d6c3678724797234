use Rattle.std.proofs.Common.{Ok}
use Rattle.tests_backend.proofs.calls.StubBackendAnyConnectionBackend.fetch_many.Goals as goal

pub returns-clause-causes : goal.returns-clause-causes
returns-clause-causes c = c.hand_out.ensures.causes (Ok c.args.arguments)
