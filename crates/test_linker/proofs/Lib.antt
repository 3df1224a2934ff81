mod ReadBytes
