pub mod Commands
pub mod MadeRuns
pub mod CrowdRuns
pub mod Program
