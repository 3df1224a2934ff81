pub mod Audit
pub mod AuditText
pub mod Summary
