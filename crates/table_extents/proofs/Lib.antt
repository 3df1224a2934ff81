pub mod ByteRecords
pub mod Granules
pub mod FreeingEntries
pub mod ExtentRecords
pub mod FreedRuns
pub mod WithinExtents
