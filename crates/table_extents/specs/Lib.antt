pub mod ExtentChanges
