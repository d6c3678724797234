pub use Rattle.sqlx_query_drafts.specs.Query
pub use Rattle.sqlx_query_drafts.specs.Binding
pub use Rattle.sqlx_query_rows.specs.Mapping
pub use Rattle.sqlx_query_drafts.specs.Growing
pub use Rattle.sqlx_query_drafts.specs.Builder
pub use Rattle.sqlx_query_drafts.specs.Tuples
pub mod Lending
