pub mod CrowdUrl
