pub mod RebuildVolume
